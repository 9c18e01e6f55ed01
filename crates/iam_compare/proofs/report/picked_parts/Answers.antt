use Rattle.std.proofs.Common.{◌≡◌, ap, sym, subst, ◌∙◌}
use Rattle.std.proofs.lemmas.Result.{IfOk-weaker}
use Rattle.iam_world.specs.World.{WorldValue}
use Rattle.iam_selection.specs.Code.Listing.{PickerValue}
use Rattle.iam_selection.specs.Selection.{SelectionValue}
use Rattle.iam_compare.specs.Code.Walk.{AreParts}
use Rattle.iam_compare.proofs.report.picked_parts.Goals as goal

same_picker : (picker : PickerValue) (world : WorldValue) (selection : SelectionValue) → picker.world ≡ world → picker.selection ≡ selection
    → picker ≡ record { world = world; selection = selection }
same_picker picker world selection first second =
    let made : WorldValue → SelectionValue → PickerValue = λ w s. record { world = w; selection = s } in
    ap (λ w. made w picker.selection) first ∙ ap (made world) second

pub indexed_parts-requires-clause-before : goal.indexed_parts-requires-clause-before
indexed_parts-requires-clause-before g c κs bounds = c.in_ok-index_before.ensures ∙ c.before-3.ensures

pub indexed_parts-requires-clause-after : goal.indexed_parts-requires-clause-after
indexed_parts-requires-clause-after g c κs bounds = c.in_ok-index_after.ensures ∙ c.after-2.ensures

pub indexed_parts-requires-clause-pick_before : goal.indexed_parts-requires-clause-pick_before
indexed_parts-requires-clause-pick_before g c κs bounds =
    same_picker c.in_ok-pick_before.pick_before c.args.requests.now.before c.in_ok-pick_after.pick_after.selection (c.in_ok-pick_before.ensures.world ∙ c.before-2.ensures)
    (c.in_ok-pick_before.ensures.selection ∙ sym c.in_ok-pick_after.ensures.selection)

pub indexed_parts-requires-clause-pick_after : goal.indexed_parts-requires-clause-pick_after
indexed_parts-requires-clause-pick_after g c κs bounds = c.in_ok-pick_after.ensures.world ∙ c.after.ensures

pub returns : goal.returns
returns g c =
    let asked = c.args.asked in
    IfOk-weaker c.indexed_parts.result _ _
    (λ parts are.
    let S : SelectionValue → Type 0 = λ s.
    AreParts (record { selection = s; all = asked.all }) c.args.requests.now asked.format asked.brief c.args.cut.now parts.items in
    subst S c.in_ok-pick_after.ensures.selection are)
    c.indexed_parts.ensures
