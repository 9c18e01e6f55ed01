use Rattle.std.proofs.Common.{length}
use Rattle.iam_open.proofs.trials.draft_names.Given as goal

abbrev pub decreases-loop-form : goal.decreases-loop-form
decreases-loop-form l = length l.left.pieces
