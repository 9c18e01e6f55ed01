use Rattle.std.proofs.Common.{take, map}
use Rattle.iam_asked.specs.Code.Found.{ArePlaces}
use Rattle.iam_layers.specs.Cell.{principal_text}
use Rattle.iam_asked.proofs.places.principal_places.Given as goal

-- the map has the texts so far
abbrev pub invariant-loop-p : goal.invariant-loop-p
invariant-loop-p l = ArePlaces (map principal_text (take l.p l.world.principals)) l.places
