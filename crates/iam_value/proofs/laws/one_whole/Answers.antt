use Rattle.iam_value.proofs.Unique.{same_whole}
use Rattle.iam_value.proofs.laws.one_whole.Goals as goal

pub returns : goal.returns
returns c = same_whole
