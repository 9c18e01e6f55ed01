use Rattle.iam_changes.proofs.ChangeLaws.{each_once}
use Rattle.iam_changes.proofs.laws.each_change_once.Goals as goal

pub returns : goal.returns
returns c = each_once c.one_triple.ensures.one
