use Rattle.std.proofs.Common.{◌≡◌, drop}
use Rattle.iam_glob.specs.Signs.{signs_in}
use Rattle.iam_every.specs.Telling.{are_apart}
use Rattle.iam_every.proofs.telling.are_apart.Given as goal

abbrev pub invariant-loop-i : goal.invariant-loop-i
invariant-loop-i l = are_apart (drop l.i (signs_in l.one)) (drop l.i (signs_in l.other)) ≡ are_apart (signs_in l.one) (signs_in l.other)
