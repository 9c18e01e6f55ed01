use Rattle.std.proofs.Common.{take}
use Rattle.iam_glob.specs.Code.Walk.{AreGiven}
use Rattle.iam_glob.specs.Signs.{signs_in}
use Rattle.iam_glob.proofs.walk.are_given.Given as goal

-- the signs so far
abbrev pub invariant-loop-i : goal.invariant-loop-i
invariant-loop-i l = AreGiven (take l.i (signs_in l.signs))
