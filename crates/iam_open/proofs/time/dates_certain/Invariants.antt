use Rattle.std.proofs.Common.{Any, take}
use Rattle.iam_open.specs.Code.Certain.{Tells}
use Rattle.iam_open.specs.Code.Time.{IsInTime, IsNoEarlier}
use Rattle.iam_open.proofs.time.dates_certain.Given as goal

-- of the values so far
abbrev pub invariant-loop-value : goal.invariant-loop-value
invariant-loop-value l =
    Tells l.certain (IsNoEarlier l.context) (λ other. Any (IsInTime other l.order) (take l.value-index l.values))
