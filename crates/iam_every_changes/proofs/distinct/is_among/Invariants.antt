use Rattle.std.proofs.Common.{Contains, map, take}
use Rattle.iam_every.specs.Groups.{groups_of, signs_of}
use Rattle.iam_every_changes.proofs.distinct.is_among.Given as goal

abbrev pub invariant-loop-other : goal.invariant-loop-other
invariant-loop-other l = ¬ Contains (groups_of (take l.other-index l.groups)) (map signs_of l.group)
