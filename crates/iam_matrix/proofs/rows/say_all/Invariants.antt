use Rattle.std.proofs.Common.{◌≡◌, ◌-◌, ◌≤◌, ◌<◌}
use Rattle.iam_matrix.specs.Code.Tiles.{AreEntries, IsOf}
use Rattle.iam_layers.specs.Cell.{IsCell}
use Rattle.iam_world.specs.World.{world_cells}
use Rattle.iam_matrix.proofs.rows.say_all.Given as goal

-- the cells so far
abbrev pub invariant-loop-at : goal.invariant-loop-at
invariant-loop-at g l = record {
  least : l.fn.tile.from ≤ l.at.cell;
  most : l.at.cell ≤ l.end;
  there : l.at.cell < world_cells l.world → IsCell l.world l.at.cell l.at.principal l.at.action l.at.resource;
  same : l.engine.world ≡ l.world;
  mark : l.engine.surveyed ≡ l.initial.engine.surveyed;
  so_far : AreEntries (IsOf g.S.Said.is l.world) l.fn.tile.from (l.at.cell - l.fn.tile.from) (g.S.Said.list l.said);
  fits : g.S.Said.fits l.said l.engine;
}

abbrev pub decreases-loop-at : goal.decreases-loop-at
decreases-loop-at g l = l.end - l.at.cell
