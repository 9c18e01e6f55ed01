use Rattle.std.proofs.Common.{◌≡◌, length, take}
use Rattle.iam_report.specs.Code.Buffer.{Passes}
use Rattle.iam_ask.specs.Code.Rows.{rows_text}
use Rattle.iam_ask.proofs.Written.{all_tails}
use Rattle.iam_ask.proofs.text.put_tiles.Given as goal

-- the tiles so far
abbrev pub invariant-loop-tile : goal.invariant-loop-tile
invariant-loop-tile g l = record {
  from : l.from ≡ length (all_tails (take l.tile-index l.tiles));
  passes :
      Passes (g.W.Write.contents l.initial.writer) (g.W.Write.contents l.writer) l.initial.kept.items l.kept.items
      (rows_text l.quoted l.requests.asked 0 (all_tails (take l.tile-index l.tiles)));
}
