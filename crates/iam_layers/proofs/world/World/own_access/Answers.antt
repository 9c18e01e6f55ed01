use Rattle.iam_layers.proofs.OwnLemmas.{own_accessed}
use Rattle.iam_layers.proofs.world.World.own_access.Goals as goal

pub returns : goal.returns
returns c = λ applicable is.
    own_accessed c.args.self.now c.args.p c.args.r c.requester.result.now c.resource_text.result.now c.args.own.now.items c.args.context.now
    c.args.derived.now.items applicable c.requester.ensures c.resource_text.ensures c.requires.derived c.requires.context is
