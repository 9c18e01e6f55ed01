use Rattle.std.proofs.Common.{◌≡◌, ◌-◌}
use Rattle.iam_matrix.specs.Code.Tiles.{AreEntries}
use Rattle.iam_matrix.proofs.cells.entries_of.Given as goal

-- the cells so far
abbrev pub invariant-loop-cell : goal.invariant-loop-cell
invariant-loop-cell g l = record {
  same : l.engine ≡ l.initial.engine;
  so_far : AreEntries (g.E.Entry.is l.initial.engine) l.fn.tile.from (l.cell - l.fn.tile.from) l.entries.items;
}
