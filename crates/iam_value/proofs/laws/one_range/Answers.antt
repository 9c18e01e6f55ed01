use Rattle.iam_value.proofs.Addresses.{same_range}
use Rattle.iam_value.proofs.laws.one_range.Goals as goal

pub returns : goal.returns
returns c = same_range
