use Rattle.std.proofs.Common.{All, take}
use Rattle.iam_decision.specs.Code.Scan.{placed_value}
use Rattle.iam_living.specs.Asker.{AsksForNone}
use Rattle.iam_living.proofs.lists.ask_for_none.Given as goal

abbrev pub invariant-loop-standing : goal.invariant-loop-standing
invariant-loop-standing l = All (λ s. AsksForNone l.index (placed_value s)) (take l.standing-index l.statements)
