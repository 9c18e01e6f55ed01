use Rattle.std.proofs.Common.{map, take}
use Rattle.iam_match.specs.Request.{access_of}
use Rattle.iam_decision.specs.Code.Scan.{placed_value}
use Rattle.iam_every.specs.Groups.{signs_of}
use Rattle.iam_every.specs.OwnGroups.{IsSideGroup}
use Rattle.iam_every.proofs.groups.side_group.Given as goal

abbrev pub invariant-loop-standing : goal.invariant-loop-standing
invariant-loop-standing l =
    IsSideGroup (access_of l.access) (map placed_value (take l.standing-index l.statements)) l.side (map signs_of l.group.items)
