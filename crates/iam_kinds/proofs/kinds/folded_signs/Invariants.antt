use Rattle.std.proofs.Common.{◌≡◌, map, take}
use Rattle.iam_glob.specs.Glob.{folded, sign_by}
use Rattle.iam_glob.specs.Signs.{signs_in}
use Rattle.iam_kinds.proofs.kinds.folded_signs.Given as goal

abbrev pub invariant-loop-i : goal.invariant-loop-i
invariant-loop-i l = l.copied.items ≡ map (sign_by folded) (take l.i (signs_in l.signs))
