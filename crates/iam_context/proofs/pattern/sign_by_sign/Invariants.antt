use Rattle.std.proofs.Common.{◌≡◌, ◌++◌, length, option_map}
use Rattle.iam_context.specs.Resolve.{resolved}
use Rattle.iam_context.proofs.pattern.sign_by_sign.Given as goal

-- the signs so far, and those of what is left
abbrev pub invariant-loop-front : goal.invariant-loop-front
invariant-loop-front l = resolved l.context l.draft ≡ option_map (λ rest. l.signs.items ++ rest) (resolved l.context l.left.pieces)

abbrev pub decreases-loop-front : goal.decreases-loop-front
decreases-loop-front l = length l.left.pieces
