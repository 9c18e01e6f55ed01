use Rattle.std.proofs.Common.{map, take}
use Rattle.iam_decision.specs.Code.Scan.{placed_value}
use Rattle.iam_index.specs.Elements.{AreKept}
use Rattle.iam_index.specs.Index.{AreListed}
use Rattle.iam_index.proofs.lists.concerned.Given as goal

abbrev pub invariant-loop-standing : goal.invariant-loop-standing
invariant-loop-standing l =
    AreKept l.world l.elements × AreListed l.world (map placed_value (take l.standing-index l.statements)) l.listed.items
