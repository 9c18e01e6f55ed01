use Rattle.std.proofs.Common.{◌≡◌, ◌++◌, take, map}
use Rattle.iam_decision.specs.Matched.{in_level}
use Rattle.iam_decision.specs.Code.Scan.{placed_value}
use Rattle.iam_decision.proofs.scan.add_level.Given as goal

abbrev pub invariant-loop-number : goal.invariant-loop-number
invariant-loop-number l =
    map placed_value l.statements.items ≡ map placed_value l.initial.statements.items ++ in_level l.layer l.level (take l.number l.policies)
