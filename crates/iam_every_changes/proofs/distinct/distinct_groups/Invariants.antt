use Rattle.std.proofs.Common.{[]}
use Rattle.iam_every.specs.Groups.{groups_of}
use Rattle.iam_every.specs.OwnGroups.{AreFirsts}
use Rattle.iam_every_changes.proofs.distinct.distinct_groups.Given as goal

abbrev pub invariant-loop-group : goal.invariant-loop-group
invariant-loop-group l = AreFirsts [] (groups_of l.yielded) (groups_of l.firsts.items)
