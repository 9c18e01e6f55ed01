use Rattle.std.proofs.Common.{List, inl, inr, refl, subst}
use Rattle.iam_match.specs.declared.principal.Grant.{Grant}
use Rattle.iam_decision.specs.Early.{IsSettled}
use Rattle.iam_decision.specs.declared.living.Matched.{Matched}
use Rattle.iam_engine.proofs.walk.add_open.Goals as goal

pub returns-then-not-is_open-clause-found : goal.returns-then-not-is_open-clause-found
returns-then-not-is_open-clause-found c =
    let place = c.args.standing.place in
    let F : List Matched → Type 0 = λ found. IsSettled found place c.grant_kind-grant.result in
    let G : Grant → Type 0 = λ grant. IsSettled c.args.findings.now place grant in
    inr (subst G c.grant_kind-grant.ensures (subst F c.as_slice.ensures (c.is_open.ensures.0 c.if-not-is_open.true)), refl)

pub returns-clause-found : goal.returns-clause-found
returns-clause-found c = inl c.in_ok-add_match.ensures.found
