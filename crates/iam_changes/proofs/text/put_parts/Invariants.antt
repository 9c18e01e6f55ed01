use Rattle.std.proofs.Common.{take}
use Rattle.std.specs.List.{flat_map}
use Rattle.iam_report.specs.Code.Buffer.{Passes}
use Rattle.iam_changes.specs.Code.Pieces.{PartValue, rows_text}
use Rattle.iam_changes.proofs.text.put_parts.Given as goal

-- the parts so far
abbrev pub invariant-loop-part : goal.invariant-loop-part
invariant-loop-part g l =
    Passes (g.W.Write.contents l.initial.writer) (g.W.Write.contents l.writer) l.initial.kept.items l.kept.items
    (flat_map (λ (part : PartValue). rows_text l.pieces part.rows) (take l.part-index l.parts))
