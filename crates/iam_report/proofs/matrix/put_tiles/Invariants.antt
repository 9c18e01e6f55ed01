use Rattle.std.proofs.Common.{◌≡◌, ◌++◌, length, take}
use Rattle.std.specs.List.{flat_map}
use Rattle.iam_report.specs.Code.Buffer.{IsWithin, PutsRows}
use Rattle.iam_row.specs.Piece.{first_position}
use Rattle.iam_report.proofs.matrix.put_tiles.Given as goal

-- the tiles so far
abbrev pub invariant-loop-tile : goal.invariant-loop-tile
invariant-loop-tile g l = record {
  puts :
      PutsRows l.quoted (flat_map (λ tile. tile) (take l.tile-index l.tiles)) first_position l.at (g.W.Write.contents l.initial.writer) (g.W.Write.contents l.writer)
      l.initial.kept.items (l.kept.items ++ l.block);
  within : IsWithin l.at;
  cell : l.at.cell ≡ length (flat_map (λ tile. tile) (take l.tile-index l.tiles));
}
