use Rattle.std.proofs.Common.{◌≡◌, ◌↔◌, IsTrue, List, chars, ap, ◌∙◌, subst}
use Rattle.iam_glob.specs.Glob.{Matches}
use Rattle.iam_glob.specs.declared.sign.Sign.{Sign}
use Rattle.iam_selection.specs.Code.Listing.{IsPrincipalMeant}
use Rattle.iam_selection.specs.Selection.{IsMeant, SelectionValue}
use Rattle.iam_selection.proofs.Flags.{principal_meant, more_flags}
use Rattle.iam_selection.proofs.picker.principals.Goals as goal

pub loop-p-preserved : goal.loop-p-preserved
loop-p-preserved c =
    let selection = c.args.selection.now in
    let world = c.args.world.now in
    let text = c.principal_text.result.now in
    let flag = c.is_meant.result in
    let same : c.as_slice-in-loop-p.result.now ≡ selection.principals =
    c.as_slice-in-loop-p.ensures.value ∙ c.in_ok-patterns.ensures ∙ c.as_slice.ensures ∙ ap (λ (s : SelectionValue). s.principals) c.selection.view_is in
    let P : List (List Sign) → Type 0 = λ patterns. IsTrue flag ↔ IsMeant (λ pattern. Matches pattern (chars text)) patterns in
    more_flags (IsPrincipalMeant selection world) c.loop-p.p c.loop-p.flags.items c.push.new.self.items flag c.in_ok-push.ensures.items c.loop-p.invariant
    (principal_meant world selection.principals c.loop-p.p text c.principal_text.ensures flag (subst P same c.is_meant.ensures))
