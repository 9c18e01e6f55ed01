use Rattle.std.proofs.Common.{◌≡◌, ◌++◌, drop, map}
use Rattle.iam_decision.specs.Code.Scan.{placed_value}
use Rattle.iam_every.specs.Code.Picked.{picked}
use Rattle.iam_every.proofs.eligible.picked.Given as goal

abbrev pub invariant-loop-i : goal.invariant-loop-i
invariant-loop-i l =
    picked (map placed_value l.statements) l.bits
    ≡ map placed_value l.chosen.items ++ picked (drop l.i (map placed_value l.statements)) (drop l.i l.bits)
