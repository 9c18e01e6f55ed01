use Rattle.std.proofs.Common.{◌≡◌, None, replicate}
use Rattle.iam_crew.proofs.order.empty_slots.Given as goal

abbrev pub invariant-loop-tile : goal.invariant-loop-tile
invariant-loop-tile g l = l.slots.items ≡ replicate l._tile None
