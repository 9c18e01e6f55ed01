use Rattle.std.proofs.Common.{map, take}
use Rattle.iam_match.specs.Request.{access_of}
use Rattle.iam_decision.specs.Code.Scan.{placed_value}
use Rattle.iam_open_every.specs.Concerned.{AreConcerned}
use Rattle.iam_open_every.proofs.concerned.concerns.Given as goal

-- of the statements so far
abbrev pub invariant-loop-standing : goal.invariant-loop-standing
invariant-loop-standing l =
    AreConcerned (access_of l.access) l.known (take l.standing-index (map placed_value l.statements)) (map placed_value l.found.items)
