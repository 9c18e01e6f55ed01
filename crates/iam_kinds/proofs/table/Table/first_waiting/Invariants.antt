use Rattle.std.proofs.Common.{◌≢◌, Some, take}
use Rattle.std.specs.List.{Contains}
use Rattle.iam_kinds.specs.Code.{rest_at, waits_for}
use Rattle.iam_kinds.specs.declared.table.Place.{Place}
use Rattle.iam_kinds.proofs.table.Table.first_waiting.Given as goal

abbrev pub invariant-loop-place : goal.invariant-loop-place
invariant-loop-place l =
    (k : Place) → Contains (take l.place-index l.places) k → waits_for (rest_at l.self.patterns.items k) ≢ Some l.letter
