use Rattle.std.proofs.Common.{◌≡◌, ◌++◌, length, map, true}
use Rattle.std.specs.Str.{chars}
use Rattle.std.specs.String.{string_bytes}
use Rattle.iam_glob.specs.Glob.{sign_of}
use Rattle.iam_context.specs.Wide.{wide_of}
use Rattle.iam_context.proofs.wide.open_pattern.Given as goal

-- the signs of the text so far, and those of what is left
abbrev pub invariant-loop-front : goal.invariant-loop-front
invariant-loop-front l = record {
  wild : l.left.wild ≡ true;
  all : wide_of l.draft ≡ map (sign_of true) (chars (string_bytes l.text)) ++ wide_of l.left.pieces;
}

abbrev pub decreases-loop-front : goal.decreases-loop-front
decreases-loop-front l = length l.left.pieces
