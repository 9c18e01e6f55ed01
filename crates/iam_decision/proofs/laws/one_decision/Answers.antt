use Rattle.iam_decision.proofs.LawLemmas.{one_decision}
use Rattle.iam_decision.proofs.laws.one_decision.Goals as goal

pub returns : goal.returns
returns c = one_decision
