use Rattle.std.proofs.Common.{take}
use Rattle.iam_open_changes.specs.Code.Implied.{AreWithin}
use Rattle.iam_open_changes.proofs.implied.are_within.Given as goal

-- of the values so far
abbrev pub invariant-loop-one : goal.invariant-loop-one
invariant-loop-one l = AreWithin l.base (take l.one-index l.ones) l.others
