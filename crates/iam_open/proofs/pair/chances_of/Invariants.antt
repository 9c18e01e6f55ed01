use Rattle.std.proofs.Common.{map, take}
use Rattle.iam_decision.specs.Code.Scan.{placed_value}
use Rattle.iam_match.specs.Request.{access_of}
use Rattle.iam_open.specs.Code.Known.{Follows}
use Rattle.iam_open.specs.Code.Pairs.{AreChances}
use Rattle.iam_open.proofs.pair.chances_of.Given as goal

-- of the statements so far
abbrev pub invariant-loop-standing : goal.invariant-loop-standing
invariant-loop-standing l =
    AreChances (access_of l.access) (Follows l.known l.access.context.now) (take l.standing-index (map placed_value l.statements)) l.chances.items
