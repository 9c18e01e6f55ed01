use Rattle.iam_decision.proofs.LawLemmas.{further_deny_allows_no_more}
use Rattle.iam_decision.proofs.laws.further_deny_allows_no_more.Goals as goal

pub returns : goal.returns
returns c = further_deny_allows_no_more
