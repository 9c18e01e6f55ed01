use Rattle.iam_changes.proofs.ChangeLaws.{against_itself}
use Rattle.iam_changes.proofs.laws.no_changes_against_itself.Goals as goal

pub returns : goal.returns
returns c = against_itself c.one_verdict_at.ensures.cell c.one_triple.ensures.one
