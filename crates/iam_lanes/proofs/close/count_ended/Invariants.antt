use Rattle.std.proofs.Common.{◌≡◌, ◌≤◌}
use Rattle.std.specs.Mem.Slots.{slots_items}
use Rattle.iam_lanes.specs.Code.Closing.{passed_below}
use Rattle.iam_lanes.proofs.close.count_ended.Given as goal

abbrev pub invariant-loop-lane : goal.invariant-loop-lane
invariant-loop-lane l = record {
  few : l.ended ≤ l.lane;
  counted : l.ended ≡ passed_below l.lane (slots_items l.closed.words) l.lengths;
}
