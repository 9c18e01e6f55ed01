use Rattle.std.specs.Str.{chars}
use Rattle.iam_glob.specs.Code.Walk.{char_in, Later, Walks, Settles, signs_left, found_in}
use Rattle.iam_glob.specs.Signs.{signs_in}
use Rattle.iam_glob.proofs.walk.match_end.Given as goal

abbrev pub invariant-loop-place : goal.invariant-loop-place
invariant-loop-place l = Settles (char_in l.case) (Later (Walks (char_in l.case) (signs_in l.fn.signs)) (chars l.fn.text)) (found_in l.place)

abbrev pub decreases-loop-place : goal.decreases-loop-place
decreases-loop-place l = signs_left (found_in l.place)
