use Rattle.std.proofs.Common.{◌≡◌, take}
use Rattle.iam_kinds.specs.Code.{good_groups}
use Rattle.iam_kinds.proofs.table.Table.good_groups.Given as goal

abbrev pub invariant-loop-place : goal.invariant-loop-place
invariant-loop-place l = l.groups.items ≡ good_groups l.self.patterns.items (take l.place-index l.places)
