use Rattle.std.proofs.Common.{◌≡◌, ◌++◌, map}
use Rattle.iam_glob.specs.Glob.{sign_of}
use Rattle.iam_text.specs.Draft.{plain_draft}
use Rattle.iam_text.proofs.pieces.add_plain.Given as goal

-- the pieces of the characters so far
abbrev pub invariant-loop-character : goal.invariant-loop-character
invariant-loop-character l = l.pieces.items ≡ l.fn.pieces.items ++ plain_draft (map (sign_of l.wild) l.yielded)
