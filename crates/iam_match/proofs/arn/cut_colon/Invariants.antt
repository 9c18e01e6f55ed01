use Rattle.std.proofs.Common.{All, take}
use Rattle.iam_match.specs.Entry.{IsNoColon}
use Rattle.iam_glob.specs.Signs.{signs_in}
use Rattle.iam_match.proofs.arn.cut_colon.Given as goal

-- the signs so far
abbrev pub invariant-loop-i : goal.invariant-loop-i
invariant-loop-i l = All IsNoColon (take l.i (signs_in l.signs))
