use Rattle.std.proofs.Common.{map, take}
use Rattle.iam_asked.specs.Before.{AreLinesBefore}
use Rattle.iam_asked.specs.TextLines.{text_line_of}
use Rattle.iam_asked.proofs.before.lines_before.Given as goal

abbrev pub invariant-loop-i : goal.invariant-loop-i
invariant-loop-i l = AreLinesBefore l.before l.after (map text_line_of (take l.i l.lines)) (map text_line_of l.all.items)
