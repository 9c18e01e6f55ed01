use Rattle.iam_every.proofs.ActionLemmas.{one_list_of_action_groups}
use Rattle.iam_every.proofs.AtLemmas.{one_list_of_groups_at}
use Rattle.iam_every.proofs.OneLemmas.{one_list_of_action_groups_at}
use Rattle.iam_every.proofs.OwnLemmas.{one_list_of_groups}
use Rattle.iam_every.proofs.laws.one_list_of_groups.Goals as goal

pub returns-clause-texts : goal.returns-clause-texts
returns-clause-texts c = one_list_of_groups

pub returns-clause-texts_at : goal.returns-clause-texts_at
returns-clause-texts_at c = one_list_of_groups_at c.one_request.ensures

pub returns-clause-actions : goal.returns-clause-actions
returns-clause-actions c = one_list_of_action_groups

pub returns-clause-actions_at : goal.returns-clause-actions_at
returns-clause-actions_at c = one_list_of_action_groups_at
