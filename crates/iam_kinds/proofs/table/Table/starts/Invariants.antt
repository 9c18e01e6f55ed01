use Rattle.std.proofs.Common.{◌≡◌, ◌-◌, ◌++◌}
use Rattle.iam_kinds.specs.Code.{starts_from}
use Rattle.iam_kinds.proofs.table.Table.starts.Given as goal

abbrev pub invariant-loop-pattern : goal.invariant-loop-pattern
invariant-loop-pattern l =
    starts_from l.count (l.pattern-end - l.count) ≡ l.starts.items ++ starts_from l.pattern (l.pattern-end - l.pattern)
