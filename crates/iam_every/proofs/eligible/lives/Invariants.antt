use Rattle.std.proofs.Common.{map, take}
use Rattle.iam_match.specs.Request.{access_of}
use Rattle.iam_decision.specs.Code.Scan.{placed_value}
use Rattle.iam_decision.specs.Living.{Lives}
use Rattle.iam_every.specs.Code.Picked.{TellEach}
use Rattle.iam_every.proofs.eligible.lives.Given as goal

abbrev pub invariant-loop-standing : goal.invariant-loop-standing
invariant-loop-standing l = TellEach (Lives (access_of l.access)) (map placed_value (take l.standing-index l.statements)) l.lives.items
