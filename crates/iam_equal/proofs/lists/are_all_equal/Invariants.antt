use Rattle.std.proofs.Common.{◌≡◌, map, take}
use Rattle.iam_decision.specs.Code.Scan.{placed_value}
use Rattle.iam_equal.proofs.lists.are_all_equal.Given as goal

-- so far they are the same
abbrev pub invariant-loop-i : goal.invariant-loop-i
invariant-loop-i l = take l.i (map placed_value l.ones) ≡ take l.i (map placed_value l.others)
