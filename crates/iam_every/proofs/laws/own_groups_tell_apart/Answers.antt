use Rattle.iam_every.proofs.ActionLemmas.{own_action_groups}
use Rattle.iam_every.proofs.OwnLemmas.{own_groups}
use Rattle.iam_every.proofs.laws.own_groups_tell_apart.Goals as goal

pub returns-clause-texts : goal.returns-clause-texts
returns-clause-texts c = own_groups

pub returns-clause-actions : goal.returns-clause-actions
returns-clause-actions c = own_action_groups
