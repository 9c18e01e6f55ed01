use Rattle.iam_every.proofs.AlikeLemmas.{alike_texts}
use Rattle.iam_every.proofs.laws.alike_texts_decide_alike.Goals as goal

pub returns : goal.returns
returns c = alike_texts
