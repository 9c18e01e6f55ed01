use Rattle.iam_open_every.proofs.LookedLemmas.{contexts_follow}
use Rattle.iam_open_every.proofs.laws.contexts_in_question_follow.Goals as goal

pub returns : goal.returns
returns c = contexts_follow c.one_stamp.ensures
