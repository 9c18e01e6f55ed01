use Rattle.iam_kinds.proofs.LawLemmas.{one_list_fold}
use Rattle.iam_kinds.proofs.laws.one_list_of_kinds_fold.Goals as goal

pub returns : goal.returns
returns c = one_list_fold
