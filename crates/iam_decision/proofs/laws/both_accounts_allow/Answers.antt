use Rattle.iam_decision.proofs.LawLemmas.{both_accounts_allow}
use Rattle.iam_decision.proofs.laws.both_accounts_allow.Goals as goal

pub returns : goal.returns
returns c = both_accounts_allow
