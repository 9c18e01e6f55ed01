use Rattle.std.proofs.Common.{◌≡◌, ◌++◌, take, map}
use Rattle.iam_decision.specs.Matched.{in_policy}
use Rattle.iam_decision.specs.Code.Scan.{placed_value}
use Rattle.iam_decision.proofs.scan.add_policy.Given as goal

abbrev pub invariant-loop-number : goal.invariant-loop-number
invariant-loop-number l =
    map placed_value l.statements.items
    ≡ map placed_value l.initial.statements.items ++ in_policy l.origin.layer l.origin.level l.origin.policy (record l.policy { statements = take l.number l.statement-items })
