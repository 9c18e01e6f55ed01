use Rattle.std.proofs.Common.{◌↔◌, length}
use Rattle.iam_glob.specs.Code.Walk.{char_in, Walks, Later}
use Rattle.iam_glob.specs.Signs.{signs_in}
use Rattle.iam_glob.proofs.ascii.first_place.Given as goal

abbrev pub invariant-loop-found : goal.invariant-loop-found
invariant-loop-found l = Later (Walks (char_in l.case) (signs_in l.signs)) l.fn.text ↔ Later (Walks (char_in l.case) (signs_in l.signs)) l.text

abbrev pub decreases-loop-found : goal.decreases-loop-found
decreases-loop-found l = length l.text
