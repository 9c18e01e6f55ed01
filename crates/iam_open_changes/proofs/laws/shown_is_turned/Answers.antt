use Rattle.iam_open_changes.proofs.ShownLemmas.{shown_is_turned}
use Rattle.iam_open_changes.proofs.laws.shown_is_turned.Goals as goal

pub returns : goal.returns
returns c = shown_is_turned
