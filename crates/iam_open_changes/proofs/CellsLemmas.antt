-- The rows of a cell of one of the worlds.
use Rattle.std.proofs.Common.{◌≡◌, ◌+◌, ◌*◌, inl, inr, ℕ, List, [], MatchOption, None, Option, Some, false, length, option_map, refl, subst, true}
use Rattle.std.proofs.lemmas.Option.{slice_get_within}
use Rattle.std.specs.Option.{is_some}
use Rattle.iam_changes.specs.Requests.{Has}
use Rattle.iam_layers.specs.Cell.{IsCell}
use Rattle.iam_open_changes.specs.Code.Parts.{AreRowsAt}
use Rattle.iam_open_changes.specs.InBoth.{AreBelow, IsThere}
use Rattle.iam_open_changes.specs.Report.{AreRows, IsAt}
use Rattle.iam_open_changes.specs.Rows.{RowValue}
use Rattle.iam_open_changes.specs.declared.numbers.Numbers.{Numbers}
use Rattle.iam_open_changes.specs.declared.report.Side.TheVariants.{After, Before}
use Rattle.iam_row.specs.Report.{CellTexts, HasTexts}
use Rattle.iam_world.specs.World.{WorldValue}

abbrev pub numbers : ℕ → ℕ → ℕ → Numbers
numbers p a r = record { principal = p; action = a; resource = r }

pub below_of : (world : WorldValue) (p a r : ℕ) (texts : CellTexts) → HasTexts world p a r texts → AreBelow world (numbers p a r)
below_of world p a r texts has =
    let (q, at, who) = has.principal in
    let (s, there, what) = has.resource in
    record {
      principal = slice_get_within world.principals p q at;
      action = slice_get_within world.actions a texts.action has.action;
      resource = slice_get_within world.resources r s there;
    }

pub there_of : (world : WorldValue) (at : Option Numbers) (texts : CellTexts) → IsAt world texts at → IsThere world at
there_of world None texts is = tt
there_of world (Some it) texts is = below_of world it.principal it.action it.resource texts is

pub has_of : (world : WorldValue) (p a r : ℕ) (texts : CellTexts) → HasTexts world p a r texts → Has world texts
has_of world p a r texts has =
    let below = below_of world p a r texts has in (
      (p * length world.actions + a) * length world.resources + r,
      (
        p,
        a,
        r,
        record { principal = below.principal; action = below.action; resource = below.resource; number = refl },
        has,
      ),
    )

-- a request that the other world has too stands there
pub left_out : (before after : WorldValue) (cell p a r : ℕ) (texts : CellTexts) (now : Option Numbers) (found : Numbers)
    → IsCell before cell p a r → HasTexts before p a r texts → now ≡ Some found → IsAt after texts now → AreRowsAt Before before after cell []
left_out before after cell p a r texts now found is has there at =
    let has_after : HasTexts after found.principal found.action found.resource texts =
    subst (λ (x : Option Numbers). IsAt after texts x) there at in
    (texts, (p, a, r, is, has), inl (has_of after found.principal found.action found.resource texts has_after, refl))

pub rows_after : (before after : WorldValue) (cell p a r : ℕ) (texts : CellTexts) (rows : List RowValue) → IsCell after cell p a r
    → HasTexts after p a r texts → AreRows before after texts rows → AreRowsAt After before after cell rows
rows_after before after cell p a r texts rows is has are = (texts, (p, a, r, is, has), are)

pub rows_before : (before after : WorldValue) (cell p a r : ℕ) (texts : CellTexts) (rows : List RowValue) → IsCell before cell p a r
    → HasTexts before p a r texts → IsAt after texts None → AreRows before after texts rows → AreRowsAt Before before after cell rows
rows_before before after cell p a r texts rows is has none are = (texts, (p, a, r, is, has), inr (none, are))

-- what a finder tells, as numbers
pub found_at : (world : WorldValue) (texts : CellTexts) (found : Option (ℕ × ℕ × ℕ))
    → MatchOption found (¬ Has world texts) (λ it. HasTexts world it.0 it.1 it.2 texts)
    → IsAt world texts (option_map (λ it. numbers it.0 it.1 it.2) found)
found_at world texts None is = is
found_at world texts (Some it) is = is

-- the same, by whether there are numbers
pub left_if : (before after : WorldValue) (cell p a r : ℕ) (texts : CellTexts) (now : Option Numbers) → is_some now ≡ true → IsCell before cell p a r
    → HasTexts before p a r texts → IsAt after texts now → AreRowsAt Before before after cell []
left_if before after cell p a r texts None some is has at = absurd (let wrong : ⊥ = cc in wrong)
left_if before after cell p a r texts (Some found) some is has at = left_out before after cell p a r texts (Some found) found is has refl at

pub none_if : (world : WorldValue) (texts : CellTexts) (now : Option Numbers) → is_some now ≡ false → IsAt world texts now → ¬ Has world texts
none_if world texts None none at = at
none_if world texts (Some found) none at = absurd (let wrong : ⊥ = cc in wrong)
