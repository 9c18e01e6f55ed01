use Rattle.iam_decision.proofs.EarlyLemmas.{deny_decides}
use Rattle.iam_decision.proofs.early.deny_decides.Goals as goal

pub returns : goal.returns
returns c = deny_decides
