use Rattle.iam_changes.proofs.ChangeLaws.{exactly}
use Rattle.iam_changes.proofs.laws.exactly_the_changes.Goals as goal

pub returns : goal.returns
returns c = exactly c.one_verdict_at.ensures.cell c.one_triple.ensures.one
