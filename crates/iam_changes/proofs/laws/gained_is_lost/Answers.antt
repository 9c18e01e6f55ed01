use Rattle.iam_changes.proofs.ChangeLaws.{other_way}
use Rattle.iam_changes.proofs.laws.gained_is_lost.Goals as goal

pub returns : goal.returns
returns c = other_way c.exactly_the_changes.ensures
