use Rattle.iam_open_every.proofs.AlikeLemmas.{read_alike}
use Rattle.iam_open_every.proofs.laws.read_alike_decide_alike.Goals as goal

pub returns : goal.returns
returns c = read_alike c.alike_texts_decide_alike.ensures
