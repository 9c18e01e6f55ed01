use Rattle.iam_kinds.proofs.LawLemmas.{one_list}
use Rattle.iam_kinds.proofs.laws.one_list_of_kinds.Goals as goal

pub returns : goal.returns
returns c = one_list
