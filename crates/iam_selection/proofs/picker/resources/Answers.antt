use Rattle.std.proofs.Common.{◌≡◌, ◌↔◌, IsTrue, List, chars, ap, ◌∙◌, subst}
use Rattle.iam_glob.specs.Glob.{Matches}
use Rattle.iam_glob.specs.declared.sign.Sign.{Sign}
use Rattle.iam_selection.specs.Code.Listing.{IsResourceMeant}
use Rattle.iam_selection.specs.Selection.{IsMeant, SelectionValue}
use Rattle.iam_selection.proofs.Flags.{resource_meant, more_flags}
use Rattle.iam_selection.proofs.picker.resources.Goals as goal

pub loop-r-preserved : goal.loop-r-preserved
loop-r-preserved c =
    let selection = c.args.selection.now in
    let world = c.args.world.now in
    let text = c.resource_text.result.now in
    let flag = c.is_meant.result in
    let same : c.as_slice-in-loop-r.result.now ≡ selection.resources =
    c.as_slice-in-loop-r.ensures.value ∙ c.in_ok-patterns.ensures ∙ c.as_slice.ensures ∙ ap (λ (s : SelectionValue). s.resources) c.selection.view_is in
    let P : List (List Sign) → Type 0 = λ patterns. IsTrue flag ↔ IsMeant (λ pattern. Matches pattern (chars text)) patterns in
    more_flags (IsResourceMeant selection world) c.loop-r.r c.loop-r.flags.items c.push.new.self.items flag c.in_ok-push.ensures.items c.loop-r.invariant
    (resource_meant world selection.resources c.loop-r.r text c.resource_text.ensures flag (subst P same c.is_meant.ensures))
