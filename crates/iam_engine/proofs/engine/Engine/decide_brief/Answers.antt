use Rattle.std.proofs.Common.{[], ◌∙◌, get_or, sym, subst}
use Rattle.std.proofs.lemmas.Option.{slice_get-get_or}
use Rattle.std.proofs.lemmas.Result.{IfOk-weaker}
use Rattle.iam_match.specs.Request.{access_of}
use Rattle.iam_layers.specs.Cell.{IsAction, IsApplicableAt, IsDecisionOf}
use Rattle.iam_world.specs.World.{WorldValue}
use Rattle.iam_index.proofs.ListLemmas.{some_apply}
use Rattle.iam_engine.specs.Cache.{HasArn}
use Rattle.iam_engine.proofs.EngineLemmas.{access_arn, decision_at}
use Rattle.iam_engine.proofs.engine.Engine.decide_brief.Goals as goal

pub decision-requires-clause-arn : goal.decision-requires-clause-arn
decision-requires-clause-arn c =
    let world = c.world-world.result.now in
    let (p, a, r) = c.triple-p.result in
    let is = c.triple-p.ensures.is in
    let (applicable, applies) = some_apply world p r is.principal is.resource in
    let access = access_of c.access-access.result in
    let H : WorldValue → Type 0 = λ w. HasArn w r access.resource in
    subst H (c.world-world.ensures ∙ sym c.self.invariant) (access_arn world p r applicable access (c.access-access.ensures applicable applies))

pub returns-clause-decision : goal.returns-clause-decision
returns-clause-decision c =
    let world = c.world-world.result.now in
    let (p, a, r) = c.triple-p.result in
    let is = c.triple-p.ensures.is in
    let (applicable, applies) = some_apply world p r is.principal is.resource in
    let access = access_of c.access-access.result in
    let action = get_or world.actions a [] in
    let named : IsAction world a action = slice_get-get_or world.actions a [] is.action in
    let A : WorldValue → Type 0 = λ w. IsApplicableAt w p r applicable in
    let N : WorldValue → Type 0 = λ w. IsAction w a action in
    IfOk-weaker c.decision.result _ _
    (λ decision holds.
    let V : WorldValue → Type 0 = λ w. IsDecisionOf w c.args.cell decision in
    subst V (c.world-world.ensures ∙ c.self.view_is)
    (p, a, r, is, decision_at world p a r applicable access action named decision (c.access-access.ensures applicable applies) holds))
    (c.decision.ensures.decision applicable action (subst A c.world-world.ensures applies) (subst N c.world-world.ensures named))
