use Rattle.iam_decision.proofs.LawLemmas.{order_is_free}
use Rattle.iam_decision.proofs.laws.order_is_free.Goals as goal

pub returns : goal.returns
returns c = order_is_free
