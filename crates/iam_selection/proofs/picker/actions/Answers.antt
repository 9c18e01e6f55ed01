use Rattle.std.proofs.Common.{◌≡◌, ◌↔◌, IsTrue, List, chars, ap, ◌∙◌, subst}
use Rattle.iam_glob.specs.Glob.{MatchesFold}
use Rattle.iam_glob.specs.declared.sign.Sign.{Sign}
use Rattle.iam_selection.specs.Code.Listing.{IsActionMeant}
use Rattle.iam_selection.specs.Selection.{IsMeant, SelectionValue}
use Rattle.iam_selection.proofs.Flags.{action_meant, more_flags}
use Rattle.iam_selection.proofs.picker.actions.Goals as goal

pub loop-a-preserved : goal.loop-a-preserved
loop-a-preserved c =
    let selection = c.args.selection.now in
    let world = c.args.world.now in
    let text = c.action_text.result.now in
    let flag = c.is_meant_fold.result in
    let same : c.as_slice-in-loop-a.result.now ≡ selection.actions =
    c.as_slice-in-loop-a.ensures.value ∙ c.in_ok-patterns.ensures ∙ c.as_slice.ensures ∙ ap (λ (s : SelectionValue). s.actions) c.selection.view_is in
    let P : List (List Sign) → Type 0 = λ patterns. IsTrue flag ↔ IsMeant (λ pattern. MatchesFold pattern (chars text)) patterns in
    more_flags (IsActionMeant selection world) c.loop-a.a c.loop-a.flags.items c.push.new.self.items flag c.in_ok-push.ensures.items c.loop-a.invariant
    (action_meant world selection.actions c.loop-a.a text c.action_text.ensures flag (subst P same c.is_meant_fold.ensures))
