use Rattle.iam_open_every.proofs.ActionLemmas.{actions_alike}
use Rattle.iam_open_every.proofs.actions.alike_actions_are_turned_alike.Goals as goal

pub returns : goal.returns
returns c = actions_alike c.alike_actions_decide_alike.ensures
