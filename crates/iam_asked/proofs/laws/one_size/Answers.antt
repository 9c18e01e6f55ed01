use Rattle.iam_asked.proofs.KeysLemmas.{one_size}
use Rattle.iam_asked.proofs.laws.one_size.Goals as goal

pub returns : goal.returns
returns c = one_size
