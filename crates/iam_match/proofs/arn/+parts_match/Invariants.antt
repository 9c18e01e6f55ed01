use Rattle.std.proofs.Common.{length}
use Rattle.iam_match.proofs.arn.+parts_match.Given as goal

abbrev pub decreases-parts_match : goal.decreases-parts_match
decreases-parts_match l = length l.others.now
