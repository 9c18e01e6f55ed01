use Rattle.std.proofs.Common.{◌≡◌, ◌↔◌, length}
use Rattle.iam_equal.proofs.texts.are_same_stretches.Given as goal

-- what is left of both is the same where all is
abbrev pub invariant-loop-front : goal.invariant-loop-front
invariant-loop-front l = l.fn.ones.pieces ≡ l.fn.others.pieces ↔ l.left.pieces ≡ l.other_left.pieces

abbrev pub decreases-loop-front : goal.decreases-loop-front
decreases-loop-front l = length l.left.pieces
