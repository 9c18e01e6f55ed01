use Rattle.std.proofs.Common.{◌≡◌, map, take}
use Rattle.iam_changes.specs.Code.Pieces.{pair_tail}
use Rattle.iam_changes.proofs.gathered.tails_of.Given as goal

abbrev pub invariant-loop-pair : goal.invariant-loop-pair
invariant-loop-pair l = l.tails.items ≡ map (pair_tail l.format l.brief) (take l.pair-index l.pairs)
