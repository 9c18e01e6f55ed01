use Rattle.std.proofs.Common.{◌≤◌, drop, length}
use Rattle.std.specs.Str.{chars, IsUtf8}
use Rattle.iam_glob.specs.Code.Walk.{char_in}
use Rattle.iam_glob.specs.Signs.{signs_in}
use Rattle.iam_glob.proofs.WalkLemmas.{Along}
use Rattle.iam_glob.proofs.walk.walk_ascii.Given as goal

abbrev pub invariant-loop-i : goal.invariant-loop-i
invariant-loop-i l =
    (l.i ≤ length l.text) × IsUtf8 (drop l.i l.text) × Along (char_in l.case) (signs_in l.signs) (chars l.text) (drop l.i (signs_in l.signs)) (chars (drop l.i l.text))
