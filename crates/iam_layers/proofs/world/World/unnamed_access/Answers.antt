use Rattle.iam_layers.proofs.UnnamedLemmas.{unnamed_accessed}
use Rattle.iam_layers.proofs.world.World.unnamed_access.Goals as goal

pub returns : goal.returns
returns c = λ action applicable policies.
    let (derived, keys, within) = c.requires.context in
    unnamed_accessed c.args.self.now c.args.p c.args.unnamed c.args.text.now c.requester.result.now c.args.context.now derived c.requires.there
    c.requester.ensures keys within action applicable policies
