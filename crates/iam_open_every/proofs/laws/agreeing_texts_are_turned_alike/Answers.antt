use Rattle.iam_open_every.proofs.LookedLemmas.{agreeing_turned}
use Rattle.iam_open_every.proofs.laws.agreeing_texts_are_turned_alike.Goals as goal

pub returns : goal.returns
returns c = agreeing_turned c.one_stamp.ensures c.alike_texts_decide_alike.ensures
