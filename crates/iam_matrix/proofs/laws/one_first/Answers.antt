use Rattle.iam_matrix.proofs.OneMatrix.{one_first}
use Rattle.iam_matrix.proofs.laws.one_first.Goals as goal

pub returns : goal.returns
returns c = one_first c.one_decision_at.ensures.cell
