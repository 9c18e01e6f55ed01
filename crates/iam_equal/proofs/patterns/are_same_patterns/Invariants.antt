use Rattle.std.proofs.Common.{◌≡◌, take}
use Rattle.iam_equal.proofs.patterns.are_same_patterns.Given as goal

-- so far they are the same
abbrev pub invariant-loop-i : goal.invariant-loop-i
invariant-loop-i l = take l.i l.ones ≡ take l.i l.others
