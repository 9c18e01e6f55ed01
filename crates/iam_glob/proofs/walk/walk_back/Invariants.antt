use Rattle.std.proofs.Common.{◌↔◌, ◌≤◌, length, take}
use denote.Shadow.{shadow}
use denote.Text.{Utf8}
use Rattle.std.specs.Str.{chars}
use Rattle.iam_glob.specs.Code.Walk.{char_in, Walks}
use Rattle.iam_glob.specs.Signs.{signs_in}
use Rattle.iam_glob.proofs.walk.walk_back.Given as goal

abbrev pub invariant-loop-len : goal.invariant-loop-len
invariant-loop-len l =
    shadow (Utf8 l.text) × (l.len ≤ length (signs_in l.signs))
    × (Walks (char_in l.case) (signs_in l.signs) (chars l.fn.text) ↔ Walks (char_in l.case) (take l.len (signs_in l.signs)) (chars l.text))

abbrev pub decreases-loop-len : goal.decreases-loop-len
decreases-loop-len l = l.len
