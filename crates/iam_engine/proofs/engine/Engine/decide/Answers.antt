use Rattle.std.proofs.Common.{[], ◌∙◌, get_or, sym, subst}
use Rattle.std.proofs.lemmas.Option.{slice_get-get_or}
use Rattle.std.proofs.lemmas.Result.{IfOk-weaker}
use Rattle.iam_match.specs.Request.{access_of}
use Rattle.iam_layers.specs.Cell.{IsAction, IsApplicableAt, IsVerdictOf}
use Rattle.iam_world.specs.World.{WorldValue}
use Rattle.iam_index.proofs.ListLemmas.{some_apply}
use Rattle.iam_engine.specs.Cache.{HasArn}
use Rattle.iam_engine.proofs.EngineLemmas.{access_arn, verdict_at}
use Rattle.iam_engine.proofs.engine.Engine.decide.Goals as goal

pub verdict-requires-clause-arn : goal.verdict-requires-clause-arn
verdict-requires-clause-arn c =
    let world = c.world-world.result.now in
    let (p, a, r) = c.triple-p.result in
    let is = c.triple-p.ensures.is in
    let (applicable, applies) = some_apply world p r is.principal is.resource in
    let access = access_of c.access-access.result in
    let H : WorldValue → Type 0 = λ w. HasArn w r access.resource in
    subst H (c.world-world.ensures ∙ sym c.self.invariant) (access_arn world p r applicable access (c.access-access.ensures applicable applies))

pub returns-clause-verdict : goal.returns-clause-verdict
returns-clause-verdict c =
    let world = c.world-world.result.now in
    let (p, a, r) = c.triple-p.result in
    let is = c.triple-p.ensures.is in
    let (applicable, applies) = some_apply world p r is.principal is.resource in
    let access = access_of c.access-access.result in
    let action = get_or world.actions a [] in
    let named : IsAction world a action = slice_get-get_or world.actions a [] is.action in
    let A : WorldValue → Type 0 = λ w. IsApplicableAt w p r applicable in
    let N : WorldValue → Type 0 = λ w. IsAction w a action in
    IfOk-weaker c.verdict.result _ _
    (λ verdict holds.
    let V : WorldValue → Type 0 = λ w. IsVerdictOf w c.args.cell verdict in
    subst V (c.world-world.ensures ∙ c.self.view_is)
    (p, a, r, is, verdict_at world p a r applicable access action named verdict (c.access-access.ensures applicable applies) holds))
    (c.verdict.ensures.verdict applicable action (subst A c.world-world.ensures applies) (subst N c.world-world.ensures named))
