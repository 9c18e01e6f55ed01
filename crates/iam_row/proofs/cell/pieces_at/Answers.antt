use Rattle.iam_row.proofs.Texts.{same_three}
use Rattle.iam_row.proofs.cell.pieces_at.Goals as goal

pub returns : goal.returns
returns c = (
  record { principal = c.principal_text.result.now; action = c.action_text.result.now; resource = c.resource_text.result.now },
  record { principal = c.principal_text.ensures; action = c.action_text.ensures; resource = c.resource_text.ensures },
  same_three _ _ _ _ _ _ c.in_ok-principal_piece.ensures c.in_ok-action_piece.ensures c.in_ok-resource_piece.ensures,
)
