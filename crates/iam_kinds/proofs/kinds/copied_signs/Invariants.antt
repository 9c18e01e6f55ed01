use Rattle.std.proofs.Common.{◌≡◌, take}
use Rattle.iam_glob.specs.Signs.{signs_in}
use Rattle.iam_kinds.proofs.kinds.copied_signs.Given as goal

abbrev pub invariant-loop-i : goal.invariant-loop-i
invariant-loop-i l = l.copied.items ≡ take l.i (signs_in l.signs)
