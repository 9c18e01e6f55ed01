use Rattle.std.proofs.Common.{◌≡◌, drop}
use Rattle.iam_glob.specs.Signs.{signs_in}
use Rattle.iam_every.specs.Telling.{covers}
use Rattle.iam_every.proofs.telling.covers.Given as goal

abbrev pub invariant-loop-i : goal.invariant-loop-i
invariant-loop-i l = covers (drop l.i (signs_in l.one)) (drop l.i (signs_in l.other)) ≡ covers (signs_in l.one) (signs_in l.other)
