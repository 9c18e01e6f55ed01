use Rattle.iam_asked.proofs.TextLineFaults.{one_text_line}
use Rattle.iam_asked.proofs.laws.one_text_line.Goals as goal

pub returns : goal.returns
returns c = one_text_line
