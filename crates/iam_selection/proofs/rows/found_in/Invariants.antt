use Rattle.std.proofs.Common.{◌≡◌, ◌-◌, ◌≤◌, ◌<◌}
use Rattle.std.specs.List.{AllZip}
use Rattle.iam_layers.specs.Cell.{IsCell}
use Rattle.iam_world.specs.World.{world_cells}
use Rattle.iam_selection.specs.Report.{AreAsked}
use Rattle.iam_selection.specs.Code.Listing.{IsEntryOf}
use Rattle.iam_selection.proofs.rows.found_in.Given as goal

-- the cells so far
abbrev pub invariant-loop-at : goal.invariant-loop-at
invariant-loop-at l = record {
  least : l.fn.tile.from ≤ l.at.cell;
  most : l.at.cell ≤ l.end;
  there : l.at.cell < world_cells l.world → IsCell l.world l.at.cell l.at.principal l.at.action l.at.resource;
  same : l.engine.world ≡ l.initial.engine.world;
  picked : AreAsked l.fn.picker.selection l.initial.engine.world l.fn.tile.from (l.at.cell - l.fn.tile.from) l.cells.items;
  entries : AllZip (IsEntryOf l.fn.brief l.initial.engine.world) l.cells.items l.entries;
}

abbrev pub decreases-loop-at : goal.decreases-loop-at
decreases-loop-at l = l.end - l.at.cell
