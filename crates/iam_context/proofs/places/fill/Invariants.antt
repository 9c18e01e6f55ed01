use Rattle.std.proofs.Common.{take}
use Rattle.iam_context.specs.Code.Places.{HasPlaces}
use Rattle.iam_context.proofs.places.fill.Given as goal

-- the places of the keys so far
abbrev pub invariant-loop-i : goal.invariant-loop-i
invariant-loop-i l = HasPlaces l.places (take l.i l.part.items)
