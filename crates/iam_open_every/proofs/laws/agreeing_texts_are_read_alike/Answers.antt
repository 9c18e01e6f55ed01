use Rattle.iam_open_every.proofs.GroupLemmas.{agreeing_texts}
use Rattle.iam_open_every.proofs.laws.agreeing_texts_are_read_alike.Goals as goal

pub returns : goal.returns
returns c = agreeing_texts
