use Rattle.iam_changes.proofs.Ones.{one_count, one_requests}
use Rattle.iam_changes.proofs.laws.one_count.Goals as goal

pub returns-clause-list : goal.returns-clause-list
returns-clause-list c = one_requests c.one_triple.ensures.one

pub returns-clause-count : goal.returns-clause-count
returns-clause-count c = one_count c.one_triple.ensures.one
