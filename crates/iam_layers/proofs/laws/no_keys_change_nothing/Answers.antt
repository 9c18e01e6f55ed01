use Rattle.iam_layers.specs.Cell.{IsDecisionAt, IsVerdictAt}
use Rattle.iam_layers.proofs.OwnLemmas.{no_keys}
use Rattle.iam_layers.proofs.laws.no_keys_change_nothing.Goals as goal

pub returns-clause-verdict : goal.returns-clause-verdict
returns-clause-verdict c = λ world p a r. no_keys (λ other. IsVerdictAt other p a r) world r

pub returns-clause-decision : goal.returns-clause-decision
returns-clause-decision c = λ world p a r. no_keys (λ other. IsDecisionAt other p a r) world r
