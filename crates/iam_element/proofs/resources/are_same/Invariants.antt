use Rattle.std.proofs.Common.{ℕ, ◌<◌}
use Rattle.iam_element.proofs.SameLemmas.{SameAt}
use Rattle.iam_element.proofs.resources.are_same.Given as goal

abbrev pub invariant-loop-i : goal.invariant-loop-i
invariant-loop-i l = (k : ℕ) → k < l.i → SameAt l.ones l.others k
