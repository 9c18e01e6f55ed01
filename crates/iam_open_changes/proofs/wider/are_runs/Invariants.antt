use Rattle.std.proofs.Common.{All, take}
use Rattle.iam_glob.specs.Signs.{signs_in}
use Rattle.iam_open_changes.specs.Code.Implied.{IsRun}
use Rattle.iam_open_changes.proofs.wider.are_runs.Given as goal

-- of the signs so far
abbrev pub invariant-loop-i : goal.invariant-loop-i
invariant-loop-i l = All IsRun (take l.i (signs_in l.signs))
