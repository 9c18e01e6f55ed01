use Rattle.iam_decision.proofs.LawLemmas.{sealed_resource_grants}
use Rattle.iam_decision.proofs.laws.sealed_resource_grants.Goals as goal

pub returns : goal.returns
returns c = sealed_resource_grants
