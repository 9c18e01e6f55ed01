use Rattle.iam_asked.proofs.Files.{no_fault_of_read}
use Rattle.iam_asked.proofs.laws.no_fault_of_read.Goals as goal

pub returns : goal.returns
returns c = no_fault_of_read c.one_asked.ensures
