use Rattle.std.proofs.Common.{◌≡◌, map, take}
use Rattle.iam_row.specs.Piece.{brief_tail}
use Rattle.iam_tiles.specs.Code.Numbered.{all_decisions}
use Rattle.iam_tiles.proofs.decisions.all_tails.Given as goal

abbrev pub invariant-loop-decision : goal.invariant-loop-decision
invariant-loop-decision l = l.tails.items ≡ map (brief_tail l.format) (take l.decision-index all_decisions)
