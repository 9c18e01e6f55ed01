use Rattle.std.proofs.Common.{ℕ, inl, inr, sym, subst}
use Rattle.iam_layers.specs.Cell.{IsCell}
use Rattle.iam_world.specs.World.{WorldValue}
use Rattle.iam_row.specs.Report.{IsCellTexts}
use Rattle.iam_selection.specs.Code.Listing.{PickerValue}
use Rattle.iam_selection.specs.Selection.{IsSelected}
use Rattle.iam_changes.specs.Requests.{Has}
use Rattle.iam_compare.proofs.walk.skips_row.Goals as goal

pub asks_row-requires : goal.asks_row-requires
asks_row-requires c =
    let at = c.args.at in
    let C : PickerValue → Type 0 = λ v. IsCell v.world at.cell at.principal at.action at.resource in
    subst C (sym c.requires.crew.picker_before) c.requires.cell

pub returns-then-not-asks_row : goal.returns-then-not-asks_row
returns-then-not-asks_row c on cell r texts is of =
    let at = c.args.at in
    let N : PickerValue → Type 0 = λ v. (cell r : ℕ) → IsCell v.world cell at.principal at.action r → ¬ IsSelected v.selection v.world cell in
    let off = subst N c.requires.crew.picker_before (c.asks_row.ensures c.if-not-asks_row.true) in
    inr (inl (λ selects. off cell r is (texts, of, selects)))

pub finds_row-requires : goal.finds_row-requires
finds_row-requires c =
    let at = c.args.at in
    let C : WorldValue → Type 0 = λ w. IsCell w at.cell at.principal at.action at.resource in
    subst C (sym c.to_after.ensures.world) c.requires.cell

pub returns : goal.returns
returns c on cell r texts is of =
    let at = c.args.at in
    let C : WorldValue → Type 0 = λ w. IsCell w cell at.principal at.action r in
    let T : WorldValue → Type 0 = λ w. IsCellTexts w cell texts in
    let H : WorldValue → Type 0 = λ w. Has w texts in
    let world = sym c.to_after.ensures.world in
    inl (subst H c.to_after.ensures.other (c.finds_row.ensures on cell r texts (subst C world is) (subst T world of)))
