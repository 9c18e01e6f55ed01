use Rattle.std.proofs.Common.{◌≤◌, drop, length}
use Rattle.iam_glob.specs.Code.Walk.{char_in}
use Rattle.iam_glob.specs.Signs.{signs_in}
use Rattle.iam_glob.proofs.WalkLemmas.{Along}
use Rattle.iam_glob.proofs.ascii.walk_front.Given as goal

abbrev pub invariant-loop-i : goal.invariant-loop-i
invariant-loop-i l =
    (l.i ≤ length l.text) × Along (char_in l.case) (signs_in l.signs) l.text (drop l.i (signs_in l.signs)) (drop l.i l.text)
