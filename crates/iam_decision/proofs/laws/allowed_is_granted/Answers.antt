use Rattle.iam_decision.proofs.LawLemmas.{allowed_is_granted}
use Rattle.iam_decision.proofs.laws.allowed_is_granted.Goals as goal

pub returns : goal.returns
returns c = allowed_is_granted
