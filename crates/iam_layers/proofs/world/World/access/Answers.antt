use Rattle.iam_layers.proofs.VerdictLemmas.{accessed}
use Rattle.iam_layers.proofs.world.World.access.Goals as goal

pub returns : goal.returns
returns c = λ applicable is.
    let (derived, derived_is, context_is) = c.requires.context in
    accessed c.args.self.now c.args.p c.args.r c.requester.result.now c.resource_text.result.now c.args.context.now derived applicable c.requester.ensures
    c.resource_text.ensures derived_is context_is is
