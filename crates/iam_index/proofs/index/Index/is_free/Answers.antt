use Rattle.std.proofs.Common.{IsTrue, subst}
use Rattle.iam_unasked.specs.Names.{HasNames}
use Rattle.iam_unasked.specs.declared.names.Names.{Names}
use Rattle.iam_world.specs.World.{WorldValue}
use Rattle.iam_index.specs.Given.{IsFree, given_keys}
use Rattle.iam_index.proofs.GivenLemmas.{if_lent}
use Rattle.iam_index.proofs.index.Index.is_free.Goals as goal

pub returns : goal.returns
returns c =
    let world = c.self.inside.world.now in
    let K : Names → Type 0 = λ keys. HasNames keys (given_keys world) in
    let W : WorldValue → Type 0 = λ w. IsTrue c.is_free.result → IsFree w c.args.statement.now in
    let given = if_lent K c.as_ref.result c.self.inside.given c.as_ref.ensures.value c.self.invariant.given_are in
    subst W c.self.view_is (c.is_free.ensures world given)
