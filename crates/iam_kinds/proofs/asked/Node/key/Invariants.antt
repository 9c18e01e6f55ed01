use Rattle.std.proofs.Common.{◌≡◌, ◌++◌, drop}
use Rattle.iam_kinds.specs.Walk.{key_of, place_numbers}
use Rattle.iam_kinds.proofs.asked.Node.key.Given as goal

abbrev pub invariant-loop-place : goal.invariant-loop-place
invariant-loop-place l = key_of l.self ≡ l.key.items ++ place_numbers (drop l.place-index l.self.places.items)
