use Rattle.std.proofs.Common.{map, take}
use Rattle.iam_decision.specs.Matched.{Selects}
use Rattle.iam_every_changes.specs.Compared.{who_of}
use Rattle.iam_app.specs.EveryChanges.{IsWhoMeant}
use Rattle.iam_app.proofs.every_changes.meant_of.Given as goal

abbrev pub invariant-loop-who : goal.invariant-loop-who
invariant-loop-who l = Selects (IsWhoMeant l.patterns) (take l.who-index (map who_of l.all)) (map who_of l.whos.items)
