use Rattle.std.proofs.Common.{◌≡◌, ◌+◌, ◌++◌, drop, map}
use Rattle.iam_kinds.specs.Answers.{pairs_of, signs_of}
use Rattle.iam_kinds.specs.States.{numbered_groups}
use Rattle.iam_kinds.proofs.kinds.add_groups.Given as goal

abbrev pub invariant-loop-group : goal.invariant-loop-group
invariant-loop-group l =
    (l.number ≡ l.fn.first + l.group-index)
    × (pairs_of l.fn.listed.items ++ numbered_groups l.fn.first (map (λ g. map (signs_of l.fold) g.items) l.groups)
    ≡ pairs_of l.listed.items ++ numbered_groups l.number (map (λ g. map (signs_of l.fold) g.items) (drop l.group-index l.groups)))
