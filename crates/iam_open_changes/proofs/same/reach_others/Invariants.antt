use Rattle.std.proofs.Common.{take}
use Rattle.iam_open_changes.specs.Code.Same.{ReachOthers}
use Rattle.iam_open_changes.proofs.same.reach_others.Given as goal

-- of the statements so far
abbrev pub invariant-loop-one : goal.invariant-loop-one
invariant-loop-one l = ReachOthers l.effect (take l.one-index l.ones) l.others
