use Rattle.std.proofs.Common.{◌≡◌, ◌++◌, drop, map}
use Rattle.iam_kinds.specs.Letters.{tails_of}
use Rattle.iam_kinds.proofs.letters.tails_behind.Given as goal

abbrev pub invariant-loop-tail : goal.invariant-loop-tail
invariant-loop-tail l =
    tails_of l.letter (map (λ t. t.now) l.tails) ≡ map (λ t. t.now) l.behind.items ++ tails_of l.letter (map (λ t. t.now) (drop l.tail-index l.tails))
