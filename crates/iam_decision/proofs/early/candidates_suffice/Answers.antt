use Rattle.iam_decision.proofs.EarlyLemmas.{candidates_suffice, candidates_tell}
use Rattle.iam_decision.proofs.early.candidates_suffice.Goals as goal

pub returns : goal.returns
returns c = record { verdict = candidates_suffice; decision = candidates_tell }
