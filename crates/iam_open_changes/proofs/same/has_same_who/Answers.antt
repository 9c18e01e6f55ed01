use Rattle.std.proofs.Common.{◌≡◌, ℕ, subst}
use Rattle.iam_layers.specs.Cell.{IsPrincipal}
use Rattle.iam_open_changes.proofs.LookLemmas.{who_same}
use Rattle.iam_open_changes.proofs.same.has_same_who.Goals as goal

pub returns : goal.returns
returns c = λ t one other was now has has'.
    let who = subst (λ (p : ℕ). IsPrincipal one p (λ principal. c.requester.result.now ≡ principal.requester)) has.principal
    (c.requester.ensures one was.resource has.resource) in
    let who' = subst (λ (p : ℕ). IsPrincipal other p (λ principal. c.requester-2.result.now ≡ principal.requester)) has'.principal
    (c.requester-2.ensures other now.resource has'.resource) in
    who_same one other was now c.requester.result.now c.requester-2.result.now who who' (c.is_same_requester.ensures t)
