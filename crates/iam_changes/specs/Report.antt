-- The report of what has changed, as CSV and as JSON, in full or in brief. LOGIC 13.7.
use Rattle.std.specs.Prelude.{◌≡◌, ◌↔◌, ℕ, List, Some, Bool, Any, IsTrue, map}
use Rattle.iam_world.specs.World.{WorldValue}
use Rattle.iam_row.specs.Changes.{ChangeRow, changes_text}
use Rattle.iam_row.specs.declared.changes.Change.TheVariants.{Gained, Lost, Differs}
use Rattle.iam_row.specs.declared.quoted.Format.{Format}
use Rattle.iam_changes.specs.Change.{AreChanges, AskedValue, ChangeValue, verdict_of}
use Rattle.iam_changes.specs.declared.change.Kinds.{Kinds}

-- the row of a change
abbrev pub row_of : ChangeValue → ChangeRow
row_of change =
    record { texts = change.texts; change = Some change.change; before = verdict_of change.before; after = verdict_of change.after }

-- which kinds of changes are among these
pub record HasKinds (changes : List ChangeValue) (kinds : Kinds) : Type 0 where
  pub gained_is : IsTrue kinds.gained ↔ Any (λ change. change.change ≡ Gained) changes
  pub lost_is : IsTrue kinds.lost ↔ Any (λ change. change.change ≡ Lost) changes
  pub differs_is : IsTrue kinds.differs ↔ Any (λ change. change.change ≡ Differs) changes

-- the report of the changes that are asked for, and which kinds of changes it has
abbrev pub IsChangesReport : Format → Bool → AskedValue → WorldValue → WorldValue → List ℕ → Kinds → Type 0
IsChangesReport format brief asked before after text kinds =
    (changes : List ChangeValue) × AreChanges asked before after changes × (text ≡ changes_text format brief (map row_of changes))
    × HasKinds changes kinds
