use Rattle.std.proofs.Common.{◌≡◌, map, take}
use Rattle.iam_row.specs.Piece.{tail_of}
use Rattle.iam_tiles.proofs.verdicts.tails_of.Given as goal

abbrev pub invariant-loop-verdict : goal.invariant-loop-verdict
invariant-loop-verdict l = l.tails.items ≡ map (tail_of l.format l.brief) (take l.verdict-index l.verdicts)
