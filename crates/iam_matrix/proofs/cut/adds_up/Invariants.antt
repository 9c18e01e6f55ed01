use Rattle.std.proofs.Common.{◌≡◌, ◌+◌, sum, take}
use Rattle.iam_matrix.proofs.cut.adds_up.Given as goal

abbrev pub invariant-loop-length : goal.invariant-loop-length
invariant-loop-length l = sum (take l.length-index l.lengths) + l.left ≡ l.cells
