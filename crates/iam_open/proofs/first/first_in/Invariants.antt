use Rattle.std.proofs.Common.{◌-◌, ◌<◌, ◌≤◌}
use Rattle.iam_layers.specs.Cell.{IsCell}
use Rattle.iam_open.specs.Asked.{asked_of}
use Rattle.iam_open.specs.Code.Parts.{AreNeverBelow}
use Rattle.iam_world.specs.World.{world_cells}
use Rattle.iam_open.proofs.first.first_in.Given as goal

-- the cells so far
abbrev pub invariant-loop-at : goal.invariant-loop-at
invariant-loop-at l = record {
  least : l.from ≤ l.at.cell;
  there : l.at.cell < world_cells l.world → IsCell l.world l.at.cell l.at.principal l.at.action l.at.resource;
  never : AreNeverBelow (asked_of l.asked) l.world l.from l.to l.at.cell;
}

abbrev pub decreases-loop-at : goal.decreases-loop-at
decreases-loop-at l = l.to - l.at.cell
