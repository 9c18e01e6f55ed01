use Rattle.std.proofs.Common.{[], ◌∙◌, ◌<◌, get_or, length, sym, subst}
use Rattle.std.proofs.lemmas.Option.{slice_get-get_or}
use Rattle.std.proofs.lemmas.Result.{IfOk-weaker}
use Rattle.iam_match.specs.Request.{access_of}
use Rattle.iam_layers.specs.Cell.{IsAction, IsApplicableAt}
use Rattle.iam_layers.specs.Own.{IsOwnDecision}
use Rattle.iam_world.specs.World.{WorldValue}
use Rattle.iam_index.proofs.ListLemmas.{some_apply}
use Rattle.iam_engine.specs.Cache.{HasArn}
use Rattle.iam_engine.proofs.EngineLemmas.{own_arn, own_decision}
use Rattle.iam_engine.proofs.engine.Engine.decide_own_brief.Goals as goal

pub decision-requires-clause-arn : goal.decision-requires-clause-arn
decision-requires-clause-arn c =
    let world = c.world-world.result.now in
    let p = c.args.p in
    let r = c.args.r in
    let own = c.args.own.now.items in
    let same = sym (c.world-world.ensures ∙ c.self.view_is) in
    let P : WorldValue → Type 0 = λ w. p < length w.principals in
    let R : WorldValue → Type 0 = λ w. r < length w.resources in
    let (applicable, applies) = some_apply world p r (subst P same c.requires.principal) (subst R same c.requires.resource) in
    let access = access_of c.own_access-access.result in
    let H : WorldValue → Type 0 = λ w. HasArn w r access.resource in
    subst H (c.world-world.ensures ∙ sym c.self.invariant) (own_arn world p r own applicable access (c.own_access-access.ensures applicable applies))

pub returns-clause-decision : goal.returns-clause-decision
returns-clause-decision c =
    let world = c.world-world.result.now in
    let p = c.args.p in
    let a = c.args.a in
    let r = c.args.r in
    let own = c.args.own.now.items in
    let same = sym (c.world-world.ensures ∙ c.self.view_is) in
    let P : WorldValue → Type 0 = λ w. p < length w.principals in
    let Q : WorldValue → Type 0 = λ w. a < length w.actions in
    let R : WorldValue → Type 0 = λ w. r < length w.resources in
    let (applicable, applies) = some_apply world p r (subst P same c.requires.principal) (subst R same c.requires.resource) in
    let access = access_of c.own_access-access.result in
    let action = get_or world.actions a [] in
    let named : IsAction world a action = slice_get-get_or world.actions a [] (subst Q same c.requires.action) in
    let A : WorldValue → Type 0 = λ w. IsApplicableAt w p r applicable in
    let N : WorldValue → Type 0 = λ w. IsAction w a action in
    IfOk-weaker c.decision.result _ _
    (λ decision holds.
    let V : WorldValue → Type 0 = λ w. IsOwnDecision w p a r own decision in
    subst V (c.world-world.ensures ∙ c.self.view_is)
    (own_decision world p a r own applicable access action named decision (c.own_access-access.ensures applicable applies) holds))
    (c.decision.ensures.decision applicable action (subst A c.world-world.ensures applies) (subst N c.world-world.ensures named))
