use Rattle.std.proofs.Common.{take, map}
use Rattle.iam_asked.specs.Code.Found.{ArePlaces}
use Rattle.iam_asked.proofs.places.resource_places.Given as goal

-- the map has the texts so far
abbrev pub invariant-loop-r : goal.invariant-loop-r
invariant-loop-r l = ArePlaces (map (λ resource. resource.arn) (take l.r l.world.resources)) l.places
