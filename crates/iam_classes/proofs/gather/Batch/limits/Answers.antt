use Rattle.iam_classes.proofs.LaneLemmas.{and_lane}
use Rattle.iam_classes.proofs.gather.Batch.limits.Goals as goal

pub returns : goal.returns
returns c = λ k found below are. and_lane _ _ k _ _ (c.where_asked.ensures k found below are) (c.where_asked-2.ensures k found below are)
