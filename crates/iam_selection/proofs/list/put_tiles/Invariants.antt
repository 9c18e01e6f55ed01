use Rattle.std.proofs.Common.{take}
use Rattle.std.specs.List.{flat_map}
use Rattle.iam_report.specs.Code.Buffer.{Passes}
use Rattle.iam_selection.specs.Code.Listing.{rows_text}
use Rattle.iam_selection.proofs.list.put_tiles.Given as goal

-- the tiles so far
abbrev pub invariant-loop-tile : goal.invariant-loop-tile
invariant-loop-tile g l =
    Passes (g.W.Write.contents l.initial.writer) (g.W.Write.contents l.writer) l.initial.kept.items l.kept.items
    (flat_map (rows_text l.quoted l.lead) (take l.tile-index l.tiles))
