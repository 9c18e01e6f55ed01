use Rattle.std.proofs.Common.{◌≡◌, ℕ, ap, subst, sym, ◌∙◌}
use Rattle.iam_decision.specs.Applicable.{ApplicableValue, value_of}
use Rattle.iam_layers.specs.Applicable.{applicable_of}
use Rattle.iam_layers.specs.Cell.{IsApplicableAt}
use Rattle.iam_world.specs.World.{WorldValue}
use Rattle.iam_changes.specs.Change.{AreUnlike, SaidValue}
use Rattle.iam_compare.proofs.walk.differ_at.Goals as goal

-- the same policies apply wherever a principal asks for a resource
one_applicable : (world : WorldValue) (p r : ℕ) (a b : ApplicableValue) → IsApplicableAt world p r a → IsApplicableAt world p r b → a ≡ b
one_applicable world p r a b (principal, p_at, (resource, r_at, is)) (other, q_at, (another, s_at, same)) =
    let one : principal ≡ other = cc in
    let two : resource ≡ another = cc in
    is ∙ ap (λ x. applicable_of world x resource) one ∙ ap (applicable_of world other) two ∙ sym same

pub returns : goal.returns
returns c = λ one other first last.
    let requests = c.args.crew.now.requests.now in
    let at = c.args.at in
    let before = value_of c.applicable-before.result in
    let after = value_of c.applicable-after.result in
    let B : WorldValue → Type 0 = λ w. IsApplicableAt w c.args.p c.args.r before in
    let A : WorldValue → Type 0 = λ w. IsApplicableAt w at.principal at.resource after in
    let was = one_applicable requests.before c.args.p c.args.r before one (subst B c.before-2.ensures c.applicable-before.ensures.value) first in
    let is = one_applicable requests.after at.principal at.resource after other (subst A c.after.ensures c.applicable-after.ensures.value) last in
    let said : ApplicableValue → SaidValue = λ policies. record { verdict = c.args.said.now; policies = policies } in
    let says : ApplicableValue → SaidValue = λ policies. record { verdict = c.args.says.now; policies = policies } in
    let X : ApplicableValue → Type 0 = λ a. AreUnlike (said a) (says after) in
    let Y : ApplicableValue → Type 0 = λ b. AreUnlike (said one) (says b) in (
      λ on. (c.if-not-crew.false, subst Y is (subst X was (c.differ.ensures.0 on))),
      λ (every, unlike). c.differ.ensures.1 (subst X (sym was) (subst Y (sym is) unlike)),
    )
