use Rattle.std.proofs.Common.{take}
use Rattle.std.specs.List.{flat_map}
use Rattle.iam_report.specs.Code.Buffer.{Passes}
use Rattle.iam_selection.specs.Code.Listing.{row_text}
use Rattle.iam_selection.proofs.list.put_found.Given as goal

-- the rows so far
abbrev pub invariant-loop-i : goal.invariant-loop-i
invariant-loop-i g l =
    Passes (g.W.Write.contents l.initial.writer) (g.W.Write.contents l.writer) l.initial.kept.items l.kept.items
    (flat_map (row_text l.quoted l.lead) (take l.i l.found))
