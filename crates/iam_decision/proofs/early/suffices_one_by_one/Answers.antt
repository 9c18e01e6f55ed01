use Rattle.iam_decision.proofs.EarlyLemmas.{nothing_suffices, suffices_one_by_one}
use Rattle.iam_decision.proofs.early.suffices_one_by_one.Goals as goal

pub returns : goal.returns
returns c = record { none = nothing_suffices; more = suffices_one_by_one }
