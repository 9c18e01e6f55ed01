use Rattle.std.proofs.Common.{map, take}
use Rattle.iam_decision.specs.Code.Scan.{placed_value}
use Rattle.iam_match.specs.Request.{access_of}
use Rattle.iam_open.specs.Code.Known.{AgreeOn}
use Rattle.iam_open_changes.specs.Code.Kept.{AreKeptOf}
use Rattle.iam_open_changes.proofs.kept.kept_of.Given as goal

-- of the statements so far
abbrev pub invariant-loop-standing : goal.invariant-loop-standing
invariant-loop-standing l =
    AreKeptOf (access_of l.access) l.action (AgreeOn l.known l.access.context.now) (take l.standing-index (map placed_value l.statements))
    l.kept.items
