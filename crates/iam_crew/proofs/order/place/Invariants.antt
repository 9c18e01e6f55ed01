use Rattle.std.proofs.Common.{◌≡◌, length}
use Rattle.iam_crew.specs.Code.Order.{IsPlaced}
use Rattle.iam_crew.proofs.order.place.Given as goal

abbrev pub invariant-loop-one : goal.invariant-loop-one
invariant-loop-one g l = record {
  count : length l.slots.items ≡ l.tiles;
  placed : IsPlaced l.slots.items l.yielded;
}
