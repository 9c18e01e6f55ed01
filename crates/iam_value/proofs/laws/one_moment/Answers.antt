use Rattle.iam_value.proofs.Unique.{same_moment}
use Rattle.iam_value.proofs.laws.one_moment.Goals as goal

pub returns : goal.returns
returns c = same_moment
