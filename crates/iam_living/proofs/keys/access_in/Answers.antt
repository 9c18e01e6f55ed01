use Rattle.iam_living.proofs.AccessLemmas.{access_at}
use Rattle.iam_living.proofs.keys.access_in.Goals as goal

pub returns-clause-access : goal.returns-clause-access
returns-clause-access c = λ derived a derived_at context_at applies.
    access_at c.args.world.now c.args.p c.args.r derived c.args.context.now a c.requester.result.now c.resource_text.result.now c.requester.ensures
    c.resource_text.ensures derived_at context_at applies
