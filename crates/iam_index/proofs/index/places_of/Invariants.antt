use Rattle.std.proofs.Common.{◌≡◌, map, take}
use Rattle.iam_index.proofs.index.places_of.Given as goal

abbrev pub invariant-loop-standing : goal.invariant-loop-standing
invariant-loop-standing l = l.places.items ≡ map (λ s. s.place) (take l.standing-index l.statements)
