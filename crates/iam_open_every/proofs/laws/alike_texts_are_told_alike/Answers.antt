use Rattle.iam_open_every.proofs.TurnedLemmas.{told_alike}
use Rattle.iam_open_every.proofs.laws.alike_texts_are_told_alike.Goals as goal

pub returns : goal.returns
returns c = told_alike
