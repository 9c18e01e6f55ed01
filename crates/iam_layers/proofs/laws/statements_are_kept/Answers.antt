use Rattle.iam_layers.proofs.VerdictLemmas.{same_principal, same_resource}
use Rattle.iam_layers.proofs.laws.statements_are_kept.Goals as goal

pub returns-clause-requesters : goal.returns-clause-requesters
returns-clause-requesters c = same_principal

pub returns-clause-resources : goal.returns-clause-resources
returns-clause-resources c = same_resource
