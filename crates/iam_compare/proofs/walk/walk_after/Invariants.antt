use Rattle.std.proofs.Common.{◌-◌, ◌≤◌, ◌<◌}
use Rattle.iam_layers.specs.Cell.{IsCell}
use Rattle.iam_world.specs.World.{world_cells}
use Rattle.iam_compare.specs.Code.Walk.{AreEnginesOf, Gathers, asked_of}
use Rattle.iam_compare.proofs.walk.walk_after.Given as goal

-- the rows of the cells so far
abbrev pub invariant-loop-at : goal.invariant-loop-at
invariant-loop-at l = record {
  least : l.from ≤ l.at.cell;
  most : l.at.cell ≤ l.end;
  there : l.at.cell < world_cells l.world → IsCell l.world l.at.cell l.at.principal l.at.action l.at.resource;
  tools : AreEnginesOf l.crew l.engines.items;
  rows : Gathers (asked_of l.crew) l.crew.requests.now l.crew.asked.brief l.from l.at.cell l.initial.rows l.rows;
}

abbrev pub decreases-loop-at : goal.decreases-loop-at
decreases-loop-at l = l.end - l.at.cell
