use Rattle.std.proofs.Common.{take}
use Rattle.iam_index.proofs.MarkLemmas.{MatchNone}
use Rattle.iam_index.proofs.elements.some_matches.Given as goal

abbrev pub invariant-loop-pattern : goal.invariant-loop-pattern
invariant-loop-pattern l = MatchNone l.world (take l.pattern-index l.action.patterns)
