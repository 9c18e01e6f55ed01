use Rattle.std.proofs.Common.{map, take}
use Rattle.iam_decision.specs.Code.Scan.{placed_value}
use Rattle.iam_match.specs.Request.{access_of}
use Rattle.iam_open.specs.Code.Added.{AreListedIn}
use Rattle.iam_open.proofs.hangs.open_of.Given as goal

-- of the statements so far
abbrev pub invariant-loop-standing : goal.invariant-loop-standing
invariant-loop-standing l =
    AreListedIn l.known (access_of l.access) l.action (take l.standing-index (map placed_value l.statements)) l.hangs.places.items l.hangs.keys.items
