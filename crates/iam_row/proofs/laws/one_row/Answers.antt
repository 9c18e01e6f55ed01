use Rattle.iam_row.specs.Report.{brief_layout, full_layout}
use Rattle.iam_row.proofs.OneText.{one_row}
use Rattle.iam_row.proofs.laws.one_row.Goals as goal

pub returns : goal.returns
returns c = record { full = one_row full_layout; brief = one_row brief_layout }
