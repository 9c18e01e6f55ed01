use Rattle.std.proofs.Common.{◌≡◌, [], map, take}
use Rattle.iam_match.specs.Statement.{AccessValue}
use Rattle.iam_decision.specs.Code.Scan.{placed_value}
use Rattle.iam_decision.specs.Living.{AreLiving}
use Rattle.iam_living.proofs.walk.concern_none.Given as goal

abbrev pub invariant-loop-standing : goal.invariant-loop-standing
invariant-loop-standing l =
    (access : AccessValue) → access.requester ≡ l.requester → AreLiving access (map placed_value (take l.standing-index l.statements)) []
