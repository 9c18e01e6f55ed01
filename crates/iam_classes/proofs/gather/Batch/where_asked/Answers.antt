use Rattle.std.proofs.Common.{inl}
use Rattle.iam_classes.proofs.LaneLemmas.{all_lane}
use Rattle.iam_classes.proofs.gather.Batch.where_asked.Goals as goal

pub returns-else-asked : goal.returns-else-asked
returns-else-asked c = λ k found below are. all_lane c.args.self.count k _ c.args.self.few below (inl c.if-asked.false)
