use Rattle.iam_open_changes.proofs.ShownLemmas.{never_is_not_shown}
use Rattle.iam_open_changes.proofs.laws.never_is_not_shown.Goals as goal

pub returns : goal.returns
returns c = never_is_not_shown c.shown_is_turned.ensures
