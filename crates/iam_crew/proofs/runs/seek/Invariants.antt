use Rattle.std.proofs.Common.{◌≡◌, ◌+◌, ◌%◌}
use Rattle.iam_crew.proofs.runs.seek.Given as goal

abbrev pub invariant-loop-turn : goal.invariant-loop-turn
invariant-loop-turn l = record {
  same : l.seat ≡ l.initial.seat;
  idle : l.idle + l._turn ≡ l.initial.idle;
  round : l.steps ≡ l._turn % l.seats;
}
