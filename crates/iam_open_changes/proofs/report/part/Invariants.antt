use Rattle.std.proofs.Common.{◌-◌, ◌<◌, ◌≤◌, string_bytes}
use Rattle.iam_layers.specs.Cell.{IsCell}
use Rattle.iam_open_changes.specs.Code.Parts.{IsPart}
use Rattle.iam_open_changes.proofs.report.part.Given as goal
use Rattle.iam_world.specs.World.{world_cells}

abbrev pub invariant-loop-at : goal.invariant-loop-at
invariant-loop-at l =
    (l.from ≤ l.at.cell) × (l.at.cell ≤ l.to)
    × (l.at.cell < world_cells l.world → IsCell l.world l.at.cell l.at.principal l.at.action l.at.resource)
    × IsPart l.cells.format l.cells.brief l.cells.side l.cells.requests.now.before l.cells.requests.now.after l.from l.at.cell (string_bytes l.rows.text)
    l.rows.kinds

abbrev pub decreases-loop-at : goal.decreases-loop-at
decreases-loop-at l = l.to - l.at.cell
