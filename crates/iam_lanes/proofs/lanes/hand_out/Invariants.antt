use Rattle.std.proofs.Common.{◌≡◌, ◌-◌, [], replicate}
use Rattle.iam_lanes.specs.Code.LaneRule.{empty_view}
use Rattle.iam_lanes.specs.Lanes.{fresh, lanes_id}
use Rattle.iam_lanes.proofs.lanes.hand_out.Given as goal

-- so many seats were dealt out, and the others stand in the opener's view
abbrev pub invariant-loop-dealt : goal.invariant-loop-dealt
invariant-loop-dealt l = record {
  dealt : l.seats.items ≡ replicate l._dealt (fresh (lanes_id l.table.shared.table_id l.plan.lengths.items l.plan.seats));
  table : l.pass.table_id ≡ l.table.shared.table_id;
  left : l.pass.me ≡ (empty_view l.plan.lengths.items l.plan.seats (l.plan.seats - l._dealt), []);
}
