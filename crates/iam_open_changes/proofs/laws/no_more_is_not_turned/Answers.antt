use Rattle.iam_open_changes.proofs.SameLemmas.{no_more_is_not_turned}
use Rattle.iam_open_changes.proofs.laws.no_more_is_not_turned.Goals as goal

pub returns : goal.returns
returns c = no_more_is_not_turned c.no_more_is_allowed.ensures
