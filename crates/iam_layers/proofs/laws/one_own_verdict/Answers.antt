use Rattle.iam_layers.specs.Cell.{IsVerdictAt}
use Rattle.iam_layers.proofs.OwnLemmas.{one_own}
use Rattle.iam_layers.proofs.laws.one_own_verdict.Goals as goal

pub returns : goal.returns
returns c = λ world p a r. one_own (λ other. IsVerdictAt other p a r) (λ other. c.one_verdict_at.ensures.request other p a r) world r
