use Rattle.iam_world.proofs.Unique.{one_world}
use Rattle.iam_world.proofs.laws.one_world.Goals as goal

pub returns : goal.returns
returns c = one_world c.one_view.ensures c.one_requester.ensures c.one_policy.ensures
