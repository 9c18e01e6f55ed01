use Rattle.iam_decision.proofs.EarlyLemmas.{nothing_tells, tells_one_by_one}
use Rattle.iam_decision.proofs.early.tells_one_by_one.Goals as goal

pub returns : goal.returns
returns c = record { none = nothing_tells; more = tells_one_by_one }
