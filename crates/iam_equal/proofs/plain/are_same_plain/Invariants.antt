use Rattle.std.proofs.Common.{◌≡◌, ◌↔◌, map, length}
use denote.Text.{Utf8}
use denote.Shadow.{shadow}
use Rattle.std.specs.Str.{chars}
use Rattle.iam_glob.specs.Glob.{sign_of}
use Rattle.iam_equal.proofs.plain.are_same_plain.Given as goal

-- what is left of both is the same where all is
abbrev pub invariant-loop-character : goal.invariant-loop-character
invariant-loop-character l =
    shadow (Utf8 l.left) × shadow (Utf8 l.other_left)
    × (
    map (sign_of l.one.wild) (chars l.one.text.now) ≡ map (sign_of l.other.wild) (chars l.other.text.now)
    ↔ map (sign_of l.one.wild) (chars l.left) ≡ map (sign_of l.other.wild) (chars l.other_left)
    )

abbrev pub decreases-loop-character : goal.decreases-loop-character
decreases-loop-character l = length (chars l.left)
