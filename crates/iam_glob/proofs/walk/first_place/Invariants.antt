use Rattle.std.proofs.Common.{◌↔◌, length}
use denote.Text.{Utf8}
use denote.Shadow.{shadow}
use Rattle.std.specs.Str.{chars}
use Rattle.iam_glob.specs.Code.Walk.{char_in, Walks, Later}
use Rattle.iam_glob.specs.Signs.{signs_in}
use Rattle.iam_glob.proofs.walk.first_place.Given as goal

abbrev pub invariant-loop-found : goal.invariant-loop-found
invariant-loop-found l =
    shadow (Utf8 l.text) × (Later (Walks (char_in l.case) (signs_in l.signs)) (chars l.fn.text) ↔ Later (Walks (char_in l.case) (signs_in l.signs)) (chars l.text))

abbrev pub decreases-loop-found : goal.decreases-loop-found
decreases-loop-found l = length (chars l.text)
