use Rattle.iam_changes.proofs.Ones.{one_first}
use Rattle.iam_changes.proofs.laws.one_twice.Goals as goal

pub returns : goal.returns
returns c = one_first
