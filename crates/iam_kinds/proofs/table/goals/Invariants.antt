use Rattle.iam_kinds.specs.Code.{AreGoals}
use Rattle.iam_kinds.proofs.table.goals.Given as goal

abbrev pub invariant-loop-group : goal.invariant-loop-group
invariant-loop-group l = AreGoals l.group l.goals.items
