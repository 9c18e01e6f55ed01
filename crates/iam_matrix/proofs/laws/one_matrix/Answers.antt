use Rattle.iam_matrix.proofs.OneMatrix.{one_matrix}
use Rattle.iam_matrix.proofs.laws.one_matrix.Goals as goal

pub returns : goal.returns
returns c = one_matrix c.one_verdict_at.ensures.cell
