use Rattle.std.proofs.Common.{[], take, map}
use Rattle.std.specs.List.{Contains}
use Rattle.iam_kinds.proofs.letters.ends_here.Given as goal

abbrev pub invariant-loop-tail : goal.invariant-loop-tail
invariant-loop-tail l = ¬ Contains (map (λ t. t.now) (take l.tail-index l.tails)) []
