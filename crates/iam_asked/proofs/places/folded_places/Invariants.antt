use Rattle.std.proofs.Common.{take, map}
use Rattle.iam_asked.specs.Code.Found.{AreOwnedPlaces}
use Rattle.iam_asked.specs.Texts.{folded}
use Rattle.iam_asked.proofs.places.folded_places.Given as goal

-- the map has the texts so far
abbrev pub invariant-loop-a : goal.invariant-loop-a
invariant-loop-a l = AreOwnedPlaces (map folded (take l.a l.world.actions)) l.places
