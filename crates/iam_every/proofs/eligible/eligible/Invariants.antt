use Rattle.std.proofs.Common.{map, take}
use Rattle.iam_match.specs.Request.{access_of}
use Rattle.iam_decision.specs.Code.Scan.{placed_value}
use Rattle.iam_decision.specs.Matched.{Selects}
use Rattle.iam_every.specs.Code.Picked.{IsEligible}
use Rattle.iam_every.proofs.eligible.eligible.Given as goal

abbrev pub invariant-loop-standing : goal.invariant-loop-standing
invariant-loop-standing l =
    Selects (IsEligible (access_of l.access)) (take l.standing-index (map placed_value l.standing-items)) (map placed_value l.found.items)
