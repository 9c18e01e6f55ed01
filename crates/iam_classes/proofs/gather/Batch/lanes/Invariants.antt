use Rattle.iam_classes.specs.Code.Lanes.{Picks}
use Rattle.iam_classes.proofs.GatherLemmas.{AreGathered}
use Rattle.iam_classes.proofs.gather.Batch.lanes.Given as goal

-- the bits of those looked at
abbrev pub invariant-loop-i : goal.invariant-loop-i
invariant-loop-i l = AreGathered (λ m. Picks l.pick m) l.self l.lanes l.i
