use Rattle.iam_value.proofs.OneStamp.{one_stamp}
use Rattle.iam_value.proofs.laws.one_stamp.Goals as goal

pub returns : goal.returns
returns c = one_stamp
