use Rattle.std.proofs.Common.{◌-◌, ◌<◌, ◌≤◌, string_bytes}
use Rattle.iam_layers.specs.Cell.{IsCell}
use Rattle.iam_world.specs.World.{world_cells}
use Rattle.iam_open.specs.Asked.{asked_of}
use Rattle.iam_open.specs.Code.Pairs.{AreKept}
use Rattle.iam_open.specs.Code.Parts.{IsPart}
use Rattle.iam_open.proofs.report.part.Given as goal

abbrev pub invariant-loop-at : goal.invariant-loop-at
invariant-loop-at l = record {
  low : l.from ≤ l.at.cell;
  high : l.at.cell ≤ l.to;
  there : l.at.cell < world_cells l.cells.world.now → IsCell l.cells.world.now l.at.cell l.at.principal l.at.action l.at.resource;
  kept : AreKept l.cells.world.now l.kept;
  part : IsPart l.cells.quoted.now.format l.cells.brief (asked_of l.cells.asked) l.cells.world.now l.from l.at.cell (string_bytes l.text);
}

abbrev pub decreases-loop-at : goal.decreases-loop-at
decreases-loop-at l = l.to - l.at.cell
