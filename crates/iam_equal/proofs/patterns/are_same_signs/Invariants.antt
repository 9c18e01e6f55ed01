use Rattle.std.proofs.Common.{◌≡◌, take}
use Rattle.iam_glob.specs.Signs.{signs_in}
use Rattle.iam_equal.proofs.patterns.are_same_signs.Given as goal

-- so far they are the same
abbrev pub invariant-loop-i : goal.invariant-loop-i
invariant-loop-i l = take l.i (signs_in l.ones) ≡ take l.i (signs_in l.others)
