use Rattle.std.proofs.Common.{◌≡◌}
use Rattle.iam_lanes.specs.Lanes.{left_in}
use Rattle.iam_low_tests.proofs.lanes.take_all.Given as goal

abbrev pub invariant-loop-number : goal.invariant-loop-number
invariant-loop-number g l = l.seat.lanes ≡ l.lanes

abbrev pub decreases-loop-number : goal.decreases-loop-number
decreases-loop-number g l = left_in 0 l.seat
