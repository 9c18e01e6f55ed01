use Rattle.std.proofs.Common.{◌≡◌, take}
use Rattle.iam_kinds.specs.Code.{matched_groups}
use Rattle.iam_kinds.proofs.table.Table.matched.Given as goal

abbrev pub invariant-loop-place : goal.invariant-loop-place
invariant-loop-place l = l.groups.items ≡ matched_groups l.self.patterns.items (take l.place-index l.places)
