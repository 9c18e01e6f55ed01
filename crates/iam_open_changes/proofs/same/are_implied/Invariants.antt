use Rattle.std.proofs.Common.{All, map, take}
use Rattle.std.specs.List.{Any}
use Rattle.iam_open_changes.specs.Code.Implied.{Implies}
use Rattle.iam_open_changes.proofs.same.are_implied.Given as goal

-- of the entries so far
abbrev pub invariant-loop-other : goal.invariant-loop-other
invariant-loop-other l =
    All (λ entry. Any (λ it. Implies it entry) l.entries) (take l.other-index (map (λ entry. entry.now) l.others))
