use Rattle.iam_decision.specs.Code.Found.{AllowsIn}
use Rattle.iam_decision.specs.Decision.{LevelsHold}
use Rattle.iam_classes.specs.Code.Lanes.{Tells}
use Rattle.iam_classes.proofs.gather.Batch.levels_hold.Given as goal

-- those that each level so far allows
abbrev pub invariant-loop-level : goal.invariant-loop-level
invariant-loop-level l = Tells l.self l.lanes (λ found. LevelsHold (AllowsIn found) l.layer l.level)
