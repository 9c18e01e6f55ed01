use Rattle.std.proofs.Common.{nat_lt, ap, ◌∙◌, sym}
use Rattle.iam_lanes.specs.Lanes.{times}
use Rattle.iam_lanes.proofs.Counts.{no_flags}
use Rattle.iam_lanes.proofs.seat.LaneSeat.new.Goals as goal

pub invariant_of-result : goal.invariant_of-result
invariant_of-result c =
    record { empty = c.requires.slots; alone = c.requires.seat; flagged = λ lane h. no_flags 64 lane ∙ ap (λ ends. nat_lt 0 (times lane ends)) (sym c.requires.ends) }
