use Rattle.iam_decision.proofs.OneVerdict.{one_verdict}
use Rattle.iam_decision.proofs.laws.one_verdict.Goals as goal

pub returns : goal.returns
returns c = one_verdict
