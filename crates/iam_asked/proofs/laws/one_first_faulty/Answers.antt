use Rattle.iam_asked.proofs.Files.{one_first_faulty}
use Rattle.iam_asked.proofs.laws.one_first_faulty.Goals as goal

pub returns : goal.returns
returns c = one_first_faulty c.one_asked.ensures
