use Rattle.std.proofs.Common.{◌≡◌, ◌++◌, drop, map, option_map}
use Rattle.iam_decision.specs.Code.Scan.{placed_value}
use Rattle.iam_every.specs.Groups.{groups_of}
use Rattle.iam_open_every.specs.Groups.{groups_at}
use Rattle.iam_open_every.proofs.groups.open_groups.Given as goal

-- the groups so far, and those of what is left
abbrev pub invariant-loop-standing : goal.invariant-loop-standing
invariant-loop-standing l =
    groups_at l.known l.context (map placed_value l.statements)
    ≡ option_map (λ rest. groups_of l.groups.items ++ rest) (groups_at l.known l.context (map placed_value (drop l.standing-index l.statements)))
