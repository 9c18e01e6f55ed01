-- That two worlds have one report of what has changed, and the laws by which the definition of changes is believed: the report has
-- each change once and nothing else, a world has not changed against itself, what is gained one way is lost the other way, and
-- who stands in no row has the same access in both. Requests have to be told apart, as a text that stands twice is a fault.
-- LOGIC 13.7.
use Rattle.std.specs.Prelude.{◌≡◌, ◌≢◌, ◌↔◌, ℕ, Bool, Contains, List, [], Some}
use Rattle.std.specs.List.{slice_get}
use Rattle.iam_decision.specs.declared.verdict.Decision.TheVariants.{Allowed}
use Rattle.iam_layers.specs.Cell.{IsDecisionOf}
use Rattle.iam_world.specs.World.{WorldValue}
use Rattle.iam_row.specs.Report.{CellTexts, IsCellTexts}
use Rattle.iam_row.specs.declared.changes.Change.{Change}
use Rattle.iam_row.specs.declared.changes.Change.TheVariants.{Gained, Lost, Differs}
use Rattle.iam_row.specs.declared.quoted.Format.{Format}
use Rattle.iam_row.specs.Selects.{Selects}
use Rattle.iam_changes.specs.Change.{AreChanges, AskedValue, ChangeValue, IsChange}
use Rattle.iam_changes.specs.Report.{IsChangesReport}
use Rattle.iam_changes.specs.Twice.{IsApart}
use Rattle.iam_changes.specs.declared.change.Kinds.{Kinds}

-- there is one list of changes, and one report of it; nothing that is asked is a cut or a number of workers
abbrev pub OneChanges : Type 0
OneChanges =
    (asked : AskedValue) (before after : WorldValue) (changes others : List ChangeValue) → IsApart before → IsApart after
    → AreChanges asked before after changes → AreChanges asked before after others → changes ≡ others

abbrev pub OneChangesReport : Type 0
OneChangesReport =
    (format : Format) (brief : Bool) (asked : AskedValue) (before after : WorldValue) (text other : List ℕ) (kinds others : Kinds)
    → IsApart before → IsApart after → IsChangesReport format brief asked before after text kinds
    → IsChangesReport format brief asked before after other others → (text ≡ other) × (kinds ≡ others)

-- the changes are those of selected requests, and all of them
abbrev pub ExactlyTheChanges : Type 0
ExactlyTheChanges =
    (asked : AskedValue) (before after : WorldValue) (changes : List ChangeValue) (change : ChangeValue)
    → IsApart before → IsApart after → AreChanges asked before after changes
    → Contains changes change ↔ (Selects asked.selection change.texts × IsChange before after asked.all change)

-- no request stands in two rows
abbrev pub EachChangeOnce : Type 0
EachChangeOnce =
    (asked : AskedValue) (before after : WorldValue) (changes : List ChangeValue) (i j : ℕ) (change other : ChangeValue)
    → IsApart before → IsApart after → AreChanges asked before after changes
    → slice_get changes i ≡ Some change → slice_get changes j ≡ Some other → change.texts ≡ other.texts → i ≡ j

-- a world has no changes against itself
abbrev pub NoChangesAgainstItself : Type 0
NoChangesAgainstItself =
    (asked : AskedValue) (world : WorldValue) (changes : List ChangeValue) → IsApart world
    → AreChanges asked world world changes → changes ≡ []

-- the change as it is the other way
abbrev pub turned_kind : Change → Change
turned_kind Gained = Lost
turned_kind Lost = Gained
turned_kind Differs = Differs

abbrev pub turned : ChangeValue → ChangeValue
turned change =
    record { texts = change.texts; change = turned_kind change.change; before = change.after; after = change.before }

-- each row has its turned one in the report the other way: what is gained is lost there, and what is lost is gained
abbrev pub GainedIsLost : Type 0
GainedIsLost =
    (asked : AskedValue) (before after : WorldValue) (changes others : List ChangeValue) (change : ChangeValue)
    → IsApart before → IsApart after → AreChanges asked before after changes → AreChanges asked after before others
    → Contains changes change ↔ Contains others (turned change)

-- the world has the request with these texts and allows it
abbrev pub Allows : WorldValue → CellTexts → Type 0
Allows world texts = (cell : ℕ) × IsCellTexts world cell texts × IsDecisionOf world cell Allowed

-- a selected request that stands in no row has the same access in both worlds
abbrev pub SameAccess : Type 0
SameAccess =
    (asked : AskedValue) (before after : WorldValue) (changes : List ChangeValue) (texts : CellTexts)
    → IsApart before → IsApart after → AreChanges asked before after changes → Selects asked.selection texts
    → ((change : ChangeValue) → Contains changes change → change.texts ≢ texts)
    → Allows before texts ↔ Allows after texts
