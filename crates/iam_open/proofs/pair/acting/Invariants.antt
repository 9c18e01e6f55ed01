use Rattle.std.proofs.Common.{ℕ, List, All, map, take}
use Rattle.iam_match.specs.Statement.{AccessValue}
use Rattle.iam_open.specs.Code.Bounds.{AreBounds}
use Rattle.iam_open.specs.Code.Known.{Follows}
use Rattle.iam_open.specs.Code.Pairs.{IsChance, placed_of}
use Rattle.iam_open.proofs.pair.acting.Given as goal

-- of the chances so far
abbrev pub invariant-loop-chance : goal.invariant-loop-chance
invariant-loop-chance l =
    (access : AccessValue) (known : List (List ℕ)) → All (IsChance access (Follows known access.context)) l.chances
    → AreBounds access l.action (Follows known access.context) (take l.chance-index (map placed_of l.chances)) l.bounds
