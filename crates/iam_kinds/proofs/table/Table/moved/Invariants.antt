use Rattle.std.proofs.Common.{◌≡◌, take}
use Rattle.std.specs.List.{flat_map}
use Rattle.iam_kinds.specs.Code.{moves_of}
use Rattle.iam_kinds.proofs.table.Table.moved.Given as goal

abbrev pub invariant-loop-place : goal.invariant-loop-place
invariant-loop-place l = l.moved.items ≡ flat_map (moves_of l.self.patterns.items l.letter) (take l.place-index l.places)
