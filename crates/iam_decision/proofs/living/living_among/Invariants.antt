use Rattle.std.proofs.Common.{map, take}
use Rattle.iam_match.specs.Request.{access_of}
use Rattle.iam_decision.specs.Code.Scan.{placed_value}
use Rattle.iam_decision.specs.Living.{AreLiving, living_value}
use Rattle.iam_decision.proofs.living.living_among.Given as goal

abbrev pub invariant-loop-statement : goal.invariant-loop-statement
invariant-loop-statement l =
    AreLiving (access_of l.access) (map placed_value (take l.statement-index l.statements)) (map living_value l.living.items)
