use Rattle.std.proofs.Common.{◌≡◌, map, take}
use Rattle.iam_kinds.specs.Code.{settled_place}
use Rattle.iam_kinds.proofs.table.Table.settled.Given as goal

abbrev pub invariant-loop-place : goal.invariant-loop-place
invariant-loop-place l = l.settled.items ≡ map (settled_place l.self.patterns.items l.places) (take l.place-index l.places)
