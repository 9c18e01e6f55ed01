use Rattle.iam_every.proofs.NamesLemmas.{alike_actions_at}
use Rattle.iam_every.proofs.laws.alike_actions_at_decide_alike.Goals as goal

pub returns : goal.returns
returns c = alike_actions_at
