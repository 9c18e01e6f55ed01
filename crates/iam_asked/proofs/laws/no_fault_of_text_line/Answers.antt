use Rattle.iam_asked.proofs.TextLineFaults.{no_fault_of_text_line}
use Rattle.iam_asked.proofs.laws.no_fault_of_text_line.Goals as goal

pub returns : goal.returns
returns c = no_fault_of_text_line
