use Rattle.std.proofs.Common.{All, take}
use Rattle.iam_open.specs.Code.Unmet.{IsUnmet}
use Rattle.iam_open.proofs.unmet.are_unmet.Given as goal

-- of the values so far
abbrev pub invariant-loop-value : goal.invariant-loop-value
invariant-loop-value l = All (IsUnmet l.known l.context) (take l.value-index l.values)
