use Rattle.std.proofs.Common.{◌≡◌, take}
use Rattle.iam_open_changes.proofs.same.are_same_entries.Given as goal

-- so far they are the same
abbrev pub invariant-loop-i : goal.invariant-loop-i
invariant-loop-i l = take l.i l.ones ≡ take l.i l.others
