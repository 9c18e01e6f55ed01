use Rattle.std.proofs.Common.{take}
use Rattle.iam_decision.specs.Matched.{Selects}
use Rattle.iam_decision.specs.Code.Found.{AllowsIn, GrantsIn}
use Rattle.iam_decision.specs.Decision.{Fails}
use Rattle.iam_decision.proofs.decide.failing.Given as goal

abbrev pub invariant-loop-layer : goal.invariant-loop-layer
invariant-loop-layer l = Selects (Fails (AllowsIn l.found) (GrantsIn l.found) l.frame) (take l.layer-index l.layers) l.failing.items
