use Rattle.iam_decision.specs.Applicable.{frame_of}
use Rattle.iam_decision.specs.Matched.{placed}
use Rattle.iam_decision.proofs.EarlyLemmas.{decided_same, found_suffices}
use Rattle.iam_decision.proofs.laws.found_decide.Goals as goal

pub returns : goal.returns
returns c = λ a q found decision are. decided_same a q (frame_of a) found (found_suffices q (placed a) found are) decision
