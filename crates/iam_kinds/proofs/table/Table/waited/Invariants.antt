use Rattle.std.proofs.Common.{◌≡◌, ◌++◌, drop}
use Rattle.iam_kinds.specs.Code.{waited_at}
use Rattle.iam_kinds.proofs.table.Table.waited.Given as goal

abbrev pub invariant-loop-place : goal.invariant-loop-place
invariant-loop-place l =
    waited_at l.self.patterns.items l.places ≡ l.waited.items ++ waited_at l.self.patterns.items (drop l.place-index l.places)
