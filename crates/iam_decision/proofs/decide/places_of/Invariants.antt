use Rattle.std.proofs.Common.{take}
use Rattle.iam_decision.specs.Code.Found.{ArePlaces}
use Rattle.iam_decision.proofs.decide.places_of.Given as goal

abbrev pub invariant-loop-matched : goal.invariant-loop-matched
invariant-loop-matched l = ArePlaces l.effect (take l.matched-index l.found) l.places.items
