use Rattle.iam_policy.proofs.OneReading.{policy_is_one}
use Rattle.iam_policy.proofs.laws.one_policy.Goals as goal

pub returns : goal.returns
returns c = policy_is_one c.one_draft.ensures c.one_condition.ensures
