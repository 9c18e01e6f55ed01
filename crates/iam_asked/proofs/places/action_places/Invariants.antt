use Rattle.std.proofs.Common.{take}
use Rattle.iam_asked.specs.Code.Found.{ArePlaces}
use Rattle.iam_asked.proofs.places.action_places.Given as goal

-- the map has the texts so far
abbrev pub invariant-loop-a : goal.invariant-loop-a
invariant-loop-a l = ArePlaces (take l.a l.world.actions) l.places
