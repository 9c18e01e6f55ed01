use Rattle.iam_ask.proofs.OneReport.{all_cells}
use Rattle.iam_ask.proofs.laws.all_cells_give_the_matrix.Goals as goal

pub returns : goal.returns
returns c = all_cells c.one_triple.ensures.some c.without_keys_as_its_cell.ensures.verdict c.without_keys_as_its_cell.ensures.decision
