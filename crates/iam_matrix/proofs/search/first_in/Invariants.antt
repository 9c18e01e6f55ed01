use Rattle.std.proofs.Common.{◌≡◌, ◌-◌, ◌≤◌, ◌<◌, ℕ}
use Rattle.iam_layers.specs.Cell.{IsCell}
use Rattle.iam_world.specs.World.{world_cells}
use Rattle.iam_matrix.specs.Matrix.{IsNotAllowed}
use Rattle.iam_matrix.proofs.search.first_in.Given as goal

-- the cells so far
abbrev pub invariant-loop-at : goal.invariant-loop-at
invariant-loop-at g l = record {
  least : l.fn.tile.from ≤ l.at.cell;
  most : l.at.cell ≤ l.end;
  there : l.at.cell < world_cells l.world → IsCell l.world l.at.cell l.at.principal l.at.action l.at.resource;
  same : l.engine.world ≡ l.initial.engine.world;
  not_allowed : (cell : ℕ) → l.fn.tile.from ≤ cell → cell < l.at.cell → g.A.Asks.asked l.fn.asker cell → IsNotAllowed l.initial.engine.world cell;
}

abbrev pub decreases-loop-at : goal.decreases-loop-at
decreases-loop-at g l = l.end - l.at.cell
