use Rattle.std.proofs.Common.{map, take}
use Rattle.iam_decision.specs.Living.{AreActing, living_value}
use Rattle.iam_decision.proofs.living.acting.Given as goal

abbrev pub invariant-loop-statement : goal.invariant-loop-statement
invariant-loop-statement l = AreActing l.action (take l.statement-index (map living_value l.living)) l.found.items
