use Rattle.std.proofs.Common.{map, take}
use Rattle.iam_decision.specs.Code.Scan.{placed_value}
use Rattle.iam_every.specs.Groups.{groups_of}
use Rattle.iam_every.specs.OwnGroups.{AreNegatedGroups}
use Rattle.iam_every.proofs.groups.negated_groups.Given as goal

abbrev pub invariant-loop-standing : goal.invariant-loop-standing
invariant-loop-standing l = AreNegatedGroups l.context (map placed_value (take l.standing-index l.statements)) (groups_of l.groups.items)
