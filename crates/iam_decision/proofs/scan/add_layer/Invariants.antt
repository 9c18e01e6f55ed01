use Rattle.std.proofs.Common.{◌≡◌, ◌++◌, map, take}
use Rattle.iam_decision.specs.Matched.{in_layer}
use Rattle.iam_decision.specs.Code.Scan.{placed_value}
use Rattle.iam_decision.proofs.scan.add_layer.Given as goal

abbrev pub invariant-loop-number : goal.invariant-loop-number
invariant-loop-number l =
    map placed_value l.statements.items
    ≡ map placed_value l.initial.statements.items ++ in_layer l.layer (take l.number (map (λ level. level.items) l.levels))
