use Rattle.iam_decision.proofs.LawLemmas.{further_limits_allow_no_more}
use Rattle.iam_decision.proofs.laws.further_limits_allow_no_more.Goals as goal

pub returns : goal.returns
returns c = further_limits_allow_no_more
