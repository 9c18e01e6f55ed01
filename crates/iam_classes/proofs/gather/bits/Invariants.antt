use Rattle.std.proofs.Common.{◌≤◌, length}
use Rattle.iam_classes.proofs.WordLemmas.{AreBits}
use Rattle.iam_classes.proofs.gather.bits.Given as goal

-- the bits of those looked at
abbrev pub invariant-loop-k : goal.invariant-loop-k
invariant-loop-k l = (l.k ≤ length l.row) × AreBits l.row l.k l.word

abbrev pub decreases-loop-k : goal.decreases-loop-k
decreases-loop-k l = l.k
