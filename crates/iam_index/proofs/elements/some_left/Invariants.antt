use Rattle.iam_index.proofs.ElementLemmas.{MatchesNoneBelow}
use Rattle.iam_index.proofs.elements.some_left.Given as goal

abbrev pub invariant-loop-a : goal.invariant-loop-a
invariant-loop-a l = MatchesNoneBelow l.world l.action l.a
