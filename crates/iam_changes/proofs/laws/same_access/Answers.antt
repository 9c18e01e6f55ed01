use Rattle.iam_changes.proofs.ChangeLaws.{same_access}
use Rattle.iam_changes.proofs.laws.same_access.Goals as goal

pub returns : goal.returns
returns c = same_access c.one_decision_at.ensures.cell c.one_triple.ensures.one
