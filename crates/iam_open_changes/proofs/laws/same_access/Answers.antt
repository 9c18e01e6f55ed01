use Rattle.iam_open_changes.proofs.SameLemmas.{same_access}
use Rattle.iam_open_changes.proofs.laws.same_access.Goals as goal

pub returns : goal.returns
returns c = same_access c.one_stamp.ensures c.one_decision.ensures
