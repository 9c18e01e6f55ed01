use Rattle.iam_selection.proofs.OneListing.{each_stands}
use Rattle.iam_selection.proofs.laws.each_stands_in_all.Goals as goal

pub returns : goal.returns
returns c = each_stands c.one_verdict_at.ensures.cell c.one_decision_at.ensures.cell
