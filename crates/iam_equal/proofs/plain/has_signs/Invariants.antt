use Rattle.std.proofs.Common.{◌≡◌, ◌↔◌, map, length}
use denote.Text.{Utf8}
use denote.Shadow.{shadow}
use Rattle.std.specs.Str.{chars}
use Rattle.iam_glob.specs.Glob.{sign_of}
use Rattle.iam_glob.specs.Signs.{signs_in}
use Rattle.iam_equal.proofs.plain.has_signs.Given as goal

-- what is left of both is the same where all is
abbrev pub invariant-loop-character : goal.invariant-loop-character
invariant-loop-character l =
    shadow (Utf8 l.left)
    × (
    map (sign_of l.plain.wild) (chars l.plain.text.now) ≡ signs_in l.signs
    ↔ map (sign_of l.plain.wild) (chars l.left) ≡ signs_in l.signs_left
    )

abbrev pub decreases-loop-character : goal.decreases-loop-character
decreases-loop-character l = length (chars l.left)
