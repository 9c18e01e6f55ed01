use Rattle.iam_open_every.proofs.TurnedLemmas.{turned_alike}
use Rattle.iam_open_every.proofs.laws.read_alike_are_turned_alike.Goals as goal

pub returns : goal.returns
returns c = turned_alike c.alike_texts_decide_alike.ensures
