use Rattle.std.proofs.Common.{IfSome}
use Rattle.iam_glob.specs.Code.Walk.{Begins, IsInFront}
use Rattle.iam_glob.specs.Signs.{signs_in}
use Rattle.iam_glob.proofs.ascii.last_in_front.Given as goal

abbrev pub invariant-loop-i : goal.invariant-loop-i
invariant-loop-i l = record {
  begins : Begins (signs_in l.signs) l.i;
  last : IfSome l.last (λ p. IsInFront (signs_in l.signs) p.0 p.1);
}
