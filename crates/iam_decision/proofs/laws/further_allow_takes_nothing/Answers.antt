use Rattle.iam_decision.proofs.LawLemmas.{further_allow_takes_nothing}
use Rattle.iam_decision.proofs.laws.further_allow_takes_nothing.Goals as goal

pub returns : goal.returns
returns c = further_allow_takes_nothing
