use Rattle.std.proofs.Common.{◌≡◌, ◌++◌, drop, map}
use Rattle.iam_decision.specs.Code.Scan.{placed_value}
use Rattle.iam_decision.specs.Living.{item_of}
use Rattle.iam_every.specs.Code.Picked.{both, picked}
use Rattle.iam_every.proofs.eligible.found.Given as goal

abbrev pub invariant-loop-i : goal.invariant-loop-i
invariant-loop-i l =
    map (item_of l.requester) (picked (map placed_value l.statements) (both l.acts l.lives))
    ≡ l.found.items ++ map (item_of l.requester) (picked (drop l.i (map placed_value l.statements)) (drop l.i (both l.acts l.lives)))
