use Rattle.std.proofs.Common.{◌≡◌, ◌-◌}
use Rattle.iam_matrix.specs.Code.Tiles.{AreEntries}
use Rattle.iam_ask.specs.Code.Rows.{IsAnswerTo}
use Rattle.iam_ask.proofs.rows.tile_of.Given as goal

-- the requests so far
abbrev pub invariant-loop-n : goal.invariant-loop-n
invariant-loop-n l = record {
  same : l.engine ≡ l.initial.engine;
  so_far : AreEntries (IsAnswerTo l.fn.brief l.requests) l.fn.tile.from (l.n - l.fn.tile.from) l.entries;
}
