use Rattle.iam_every.proofs.NamesLemmas.{alike_names}
use Rattle.iam_every.proofs.laws.alike_names_decide_alike.Goals as goal

pub returns : goal.returns
returns c = alike_names
