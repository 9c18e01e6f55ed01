use Rattle.iam_layers.specs.Cell.{IsDecisionAt}
use Rattle.iam_layers.proofs.OwnLemmas.{one_own}
use Rattle.iam_layers.proofs.laws.one_own_decision.Goals as goal

pub returns : goal.returns
returns c = λ world p a r. one_own (λ other. IsDecisionAt other p a r) (λ other. c.one_decision_at.ensures.request other p a r) world r
