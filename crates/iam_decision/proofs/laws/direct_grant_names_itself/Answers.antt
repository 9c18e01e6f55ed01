use Rattle.iam_decision.proofs.GrantLemmas.{direct_grant_names_itself}
use Rattle.iam_decision.proofs.laws.direct_grant_names_itself.Goals as goal

pub returns : goal.returns
returns c = direct_grant_names_itself
