use Rattle.std.proofs.Common.{drop}
use denote.Shadow.{shadow}
use denote.Text.{Utf8}
use Rattle.std.specs.Str.{chars}
use Rattle.iam_glob.specs.Code.Walk.{char_in}
use Rattle.iam_glob.specs.Signs.{signs_in}
use Rattle.iam_glob.proofs.WalkLemmas.{Along}
use Rattle.iam_glob.proofs.walk.walk_front.Given as goal

abbrev pub invariant-loop-i : goal.invariant-loop-i
invariant-loop-i l =
    shadow (Utf8 l.text) × Along (char_in l.case) (signs_in l.fn.signs) (chars l.fn.text) (drop l.i (signs_in l.signs)) (chars l.text)
