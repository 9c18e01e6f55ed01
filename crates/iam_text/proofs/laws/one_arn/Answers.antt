use Rattle.iam_text.proofs.ArnLemmas.{arn_unique}
use Rattle.iam_text.proofs.laws.one_arn.Goals as goal

pub returns : goal.returns
returns c = arn_unique
