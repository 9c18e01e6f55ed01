use Rattle.iam_selection.proofs.Names.{reads_as_policies}
use Rattle.iam_selection.proofs.laws.reads_as_policies.Goals as goal

pub returns : goal.returns
returns c = reads_as_policies
