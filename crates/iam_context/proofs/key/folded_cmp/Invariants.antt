use Rattle.std.proofs.Common.{◌≡◌, length}
use Rattle.iam_context.specs.Keys.{key_cmp}
use Rattle.iam_context.proofs.key.folded_cmp.Given as goal

-- what is left decides
abbrev pub invariant-loop-one : goal.invariant-loop-one
invariant-loop-one l = key_cmp l.fn.left l.fn.right ≡ key_cmp l.left l.right

abbrev pub decreases-loop-one : goal.decreases-loop-one
decreases-loop-one l = length l.left
