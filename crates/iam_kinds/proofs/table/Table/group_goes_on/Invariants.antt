use Rattle.std.proofs.Common.{◌≡◌, drop}
use Rattle.iam_kinds.specs.Code.{group_goes_on}
use Rattle.iam_kinds.proofs.table.Table.group_goes_on.Given as goal

abbrev pub invariant-loop-place : goal.invariant-loop-place
invariant-loop-place l =
    group_goes_on l.self.patterns.items l.places l.letter l.group
    ≡ group_goes_on l.self.patterns.items (drop l.place-index l.places) l.letter l.group
