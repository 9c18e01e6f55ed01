use Rattle.std.proofs.Common.{◌≡◌, vec_len, All}
use Rattle.iam_work.specs.Code.Fields.{IsUnused}
use Rattle.iam_work.proofs.opening.open_deques.Given as goal

abbrev pub invariant-loop-seat : goal.invariant-loop-seat
invariant-loop-seat l = record {
  count : vec_len l.owners ≡ l._seat;
  unused : All (IsUnused l.plan.grains) l.owners.items;
}
