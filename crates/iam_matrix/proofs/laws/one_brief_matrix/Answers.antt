use Rattle.iam_matrix.proofs.OneMatrix.{one_brief_matrix}
use Rattle.iam_matrix.proofs.laws.one_brief_matrix.Goals as goal

pub returns : goal.returns
returns c = one_brief_matrix c.one_decision_at.ensures.cell
