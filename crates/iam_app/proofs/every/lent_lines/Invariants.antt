use Rattle.std.proofs.Common.{take}
use Rattle.std.specs.List.{AllZip}
use Rattle.iam_app.specs.Code.Naming.{IsLent}
use Rattle.iam_app.proofs.every.lent_lines.Given as goal

abbrev pub invariant-loop-i : goal.invariant-loop-i
invariant-loop-i l = AllZip IsLent (take l.i l.lines) l.lent.items
