use Rattle.std.proofs.Common.{ℕ, ◌<◌, IsTrue}
use Rattle.iam_kinds.specs.Code.{group_goes_on}
use Rattle.iam_kinds.proofs.table.Table.goes_on_below.Given as goal

abbrev pub invariant-loop-group : goal.invariant-loop-group
invariant-loop-group l = (g : ℕ) → g < l.group → IsTrue (group_goes_on l.self.patterns.items l.places l.letter g)
