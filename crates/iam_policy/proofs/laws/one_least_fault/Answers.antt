use Rattle.iam_policy.proofs.OneReading.{least_is_one}
use Rattle.iam_policy.proofs.laws.one_least_fault.Goals as goal

pub returns : goal.returns
returns c = least_is_one
