use Rattle.std.proofs.Common.{take}
use Rattle.iam_report.specs.Code.Buffer.{Passes}
use Rattle.iam_ask.specs.Code.Rows.{rows_text}
use Rattle.iam_ask.proofs.text.put_tile.Given as goal

-- the rows so far
abbrev pub invariant-loop-i : goal.invariant-loop-i
invariant-loop-i g l =
    Passes (g.W.Write.contents l.initial.writer) (g.W.Write.contents l.writer) l.initial.kept.items l.kept.items
    (rows_text l.quoted l.requests.asked l.from (take l.i l.tile))
