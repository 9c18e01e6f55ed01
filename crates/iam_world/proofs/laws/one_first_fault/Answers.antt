use Rattle.iam_world.proofs.Unique.{one_first_fault}
use Rattle.iam_world.proofs.laws.one_first_fault.Goals as goal

pub returns : goal.returns
returns c = one_first_fault c.one_view.ensures c.one_least_fault.ensures
