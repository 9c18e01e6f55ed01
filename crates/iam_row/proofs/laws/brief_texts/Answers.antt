use Rattle.iam_row.proofs.Cells.{brief_are_report}
use Rattle.iam_row.proofs.laws.brief_texts.Goals as goal

pub returns : goal.returns
returns c = brief_are_report
