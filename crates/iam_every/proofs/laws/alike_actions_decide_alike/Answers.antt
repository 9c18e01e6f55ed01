use Rattle.iam_every.proofs.AlikeLemmas.{alike_actions}
use Rattle.iam_every.proofs.laws.alike_actions_decide_alike.Goals as goal

pub returns : goal.returns
returns c = alike_actions
