use Rattle.std.proofs.Common.{◌≡◌, ◌++◌, length, map, option_map}
use Rattle.std.specs.Str.{chars}
use Rattle.std.specs.String.{string_bytes}
use Rattle.iam_glob.specs.Glob.{sign_of}
use Rattle.iam_context.specs.Resolve.{resolved}
use Rattle.iam_context.proofs.pattern.text_of.Given as goal

-- the signs of the text so far, and those of what is left
abbrev pub invariant-loop-front : goal.invariant-loop-front
invariant-loop-front l = record {
  wild : l.left.wild ≡ l.fn.left.wild;
  all : resolved l.context l.fn.left.pieces
      ≡ option_map (λ rest. map (sign_of l.fn.left.wild) (chars (string_bytes l.text)) ++ rest) (resolved l.context l.left.pieces);
}

abbrev pub decreases-loop-front : goal.decreases-loop-front
decreases-loop-front l = length l.left.pieces
