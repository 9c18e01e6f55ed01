use Rattle.std.proofs.Common.{◌≡◌, ◌+◌, sum, take}
use Rattle.iam_lanes.proofs.lanes.fits.Given as goal

abbrev pub invariant-loop-length : goal.invariant-loop-length
invariant-loop-length l = l.left + sum (take l.length-index l.lengths) ≡ 4096
