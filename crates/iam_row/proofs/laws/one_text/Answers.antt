use Rattle.iam_row.specs.Report.{brief_layout, full_layout}
use Rattle.iam_row.proofs.OneText.{one_text}
use Rattle.iam_row.proofs.laws.one_text.Goals as goal

pub returns : goal.returns
returns c = record { full = one_text c.one_triple.ensures.some full_layout; brief = one_text c.one_triple.ensures.some brief_layout }
