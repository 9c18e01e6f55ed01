use Rattle.std.proofs.Common.{◌≡◌, ◌++◌, map}
use Rattle.iam_glob.specs.Glob.{sign_of}
use Rattle.iam_glob.proofs.sign.add_characters.Given as goal

-- the signs of the characters so far
abbrev pub invariant-loop-character : goal.invariant-loop-character
invariant-loop-character l = l.signs.items ≡ l.fn.signs.items ++ map (sign_of l.wild) l.yielded
