use Rattle.iam_decision.proofs.LawLemmas.{boundary_binds, session_binds}
use Rattle.iam_decision.proofs.laws.boundary_and_session_bind.Goals as goal

pub returns : goal.returns
returns c = record { boundary = boundary_binds; session = session_binds }
