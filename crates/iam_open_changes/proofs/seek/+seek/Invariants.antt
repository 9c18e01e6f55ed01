use Rattle.std.proofs.Common.{◌-◌, length}
use Rattle.iam_open_changes.proofs.seek.+seek.Given as goal

abbrev pub decreases-seek : goal.decreases-seek
decreases-seek l = length l.trials.now - l.k
