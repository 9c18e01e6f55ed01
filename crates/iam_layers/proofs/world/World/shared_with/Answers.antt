use Rattle.std.proofs.lemmas.Result.{IfOk-weaker}
use Rattle.iam_decision.specs.Applicable.{value_of}
use Rattle.iam_match.specs.Request.{access_of}
use Rattle.iam_layers.proofs.world.World.shared_with.Goals as goal

pub access-access-requires-clause-context : goal.access-access-requires-clause-context
access-access-requires-clause-context c = (c.args.derived.now.items, c.requires.derived, c.in_ok-context.ensures)

pub returns : goal.returns
returns c =
    let a = value_of c.applicable.result in
    IfOk-weaker c.shared.result _ _
    (λ shared is. (a, access_of c.access-access.result, c.access-access.ensures a c.applicable.ensures.value, is c.args.self.now.actions)) c.shared.ensures
