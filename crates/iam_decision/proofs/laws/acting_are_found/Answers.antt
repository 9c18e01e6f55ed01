use Rattle.iam_match.specs.Statement.{request_for}
use Rattle.iam_decision.specs.Matched.{placed}
use Rattle.iam_decision.proofs.ScanLemmas.{acting_more, acting_skip}
use Rattle.iam_decision.proofs.EarlyLemmas.{candidates_found}
use Rattle.iam_decision.proofs.VerdictLemmas.{acting_found}
use Rattle.iam_decision.proofs.laws.acting_are_found.Goals as goal

pub returns-clause-found : goal.returns-clause-found
returns-clause-found c = λ actions a access action shared found asked is acts.
    candidates_found actions (request_for access action) (placed a) is.candidates found asked is.are
    (acting_found access action is.candidates shared.living found is.living acts)

pub returns-clause-more : goal.returns-clause-more
returns-clause-more c = λ action living i x found below is before.
    (acting_more action living i x found below is before, acting_skip action living i x found below is before)
