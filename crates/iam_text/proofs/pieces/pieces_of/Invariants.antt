use Rattle.std.proofs.Common.{◌≡◌, ◌++◌, length}
use Rattle.iam_text.proofs.pieces.pieces_of.Given as goal

-- the pieces so far, and those of what is left
abbrev pub invariant-loop-front : goal.invariant-loop-front
invariant-loop-front l = l.fn.whole.pieces ≡ l.pieces.items ++ l.left.pieces

abbrev pub decreases-loop-front : goal.decreases-loop-front
decreases-loop-front l = length l.left.pieces
