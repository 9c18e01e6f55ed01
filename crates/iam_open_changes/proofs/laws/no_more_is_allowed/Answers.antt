use Rattle.iam_open_changes.proofs.SameLemmas.{no_more_is_allowed}
use Rattle.iam_open_changes.proofs.laws.no_more_is_allowed.Goals as goal

pub returns : goal.returns
returns c = no_more_is_allowed c.one_stamp.ensures c.one_decision.ensures
