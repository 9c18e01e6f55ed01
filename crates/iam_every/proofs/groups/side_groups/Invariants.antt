use Rattle.std.proofs.Common.{map, take}
use Rattle.std.specs.List.{AllZip}
use Rattle.iam_match.specs.Request.{access_of}
use Rattle.iam_decision.specs.Code.Scan.{placed_value}
use Rattle.iam_every.specs.Groups.{groups_of}
use Rattle.iam_every.specs.OwnGroups.{AreSides, IsSideGroup}
use Rattle.iam_every.proofs.groups.side_groups.Given as goal

abbrev pub invariant-loop-standing : goal.invariant-loop-standing
invariant-loop-standing l = record {
  sides : AreSides (access_of l.access) (map placed_value (take l.standing-index l.statements)) l.sides.items;
  groups : AllZip (IsSideGroup (access_of l.access) (map placed_value l.statements)) l.sides.items (groups_of l.groups.items);
}
