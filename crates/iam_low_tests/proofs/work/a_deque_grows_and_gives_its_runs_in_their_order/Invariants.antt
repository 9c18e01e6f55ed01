use Rattle.std.proofs.Common.{◌≡◌}
use Rattle.iam_low_tests.proofs.work.a_deque_grows_and_gives_its_runs_in_their_order.Given as goal

abbrev pub invariant-loop-first : goal.invariant-loop-first
invariant-loop-first g l = (l.seat.work ≡ l.work) × (l.work.grains ≡ 100)

abbrev pub invariant-loop-first-2 : goal.invariant-loop-first-2
invariant-loop-first-2 g l = l.seat.work ≡ l.work
