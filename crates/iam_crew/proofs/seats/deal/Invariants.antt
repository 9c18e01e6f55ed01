use Rattle.std.proofs.Common.{◌≡◌, ◌+◌, All, length, vec_len}
use Rattle.iam_crew.specs.Code.Worker.{IsFresh, IsReady}
use Rattle.iam_crew.proofs.seats.deal.Given as goal

abbrev pub invariant-loop-seat : goal.invariant-loop-seat
invariant-loop-seat l = record {
  count : vec_len l.all ≡ length l.yielded;
  left : vec_len l.bounds + length l.yielded ≡ vec_len l.initial.bounds;
  fresh : All (IsFresh l.lanes) l.bounds.items;
  ready : All (IsReady l.lanes l.work) l.all.items;
}
