use Rattle.iam_asked.proofs.Meanings.{no_fault}
use Rattle.iam_asked.proofs.laws.no_fault_of_request.Goals as goal

pub returns : goal.returns
returns c = no_fault
