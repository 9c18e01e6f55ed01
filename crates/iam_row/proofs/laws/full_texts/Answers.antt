use Rattle.iam_row.proofs.Cells.{full_are_report}
use Rattle.iam_row.proofs.laws.full_texts.Goals as goal

pub returns : goal.returns
returns c = full_are_report
