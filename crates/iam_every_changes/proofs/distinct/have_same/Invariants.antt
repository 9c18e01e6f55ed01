use Rattle.std.proofs.Common.{◌≡◌, map, take}
use Rattle.iam_every.specs.Groups.{signs_of}
use Rattle.iam_every_changes.proofs.distinct.have_same.Given as goal

abbrev pub invariant-loop-i : goal.invariant-loop-i
invariant-loop-i l = map signs_of (take l.i l.ones) ≡ map signs_of (take l.i l.others)
