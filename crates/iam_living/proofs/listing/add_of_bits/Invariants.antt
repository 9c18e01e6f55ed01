use Rattle.std.proofs.Common.{map, take}
use Rattle.iam_decision.specs.Code.Scan.{placed_value}
use Rattle.iam_decision.specs.Living.{living_value}
use Rattle.iam_living.specs.Word.{TakesBits}
use Rattle.iam_living.proofs.listing.add_of_bits.Given as goal

abbrev pub invariant-loop-standing : goal.invariant-loop-standing
invariant-loop-standing l =
    TakesBits l.requester (map placed_value (take l.standing-index l.statements)) l.word (map living_value l.initial.living.items)
    (map living_value l.living.items) l.bits
