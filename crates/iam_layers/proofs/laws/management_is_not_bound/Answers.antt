use Rattle.iam_layers.proofs.ManagementLemmas.{management_is_not_bound}
use Rattle.iam_layers.proofs.laws.management_is_not_bound.Goals as goal

pub returns : goal.returns
returns c = management_is_not_bound
