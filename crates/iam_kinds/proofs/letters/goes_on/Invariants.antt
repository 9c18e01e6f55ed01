use Rattle.std.proofs.Common.{◌≡◌, drop, map}
use Rattle.iam_kinds.specs.Letters.{goes_on}
use Rattle.iam_kinds.proofs.letters.goes_on.Given as goal

abbrev pub invariant-loop-tail : goal.invariant-loop-tail
invariant-loop-tail l = goes_on (map (λ t. t.now) l.tails) l.letter ≡ goes_on (map (λ t. t.now) (drop l.tail-index l.tails)) l.letter
