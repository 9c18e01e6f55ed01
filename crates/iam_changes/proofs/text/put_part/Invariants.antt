use Rattle.std.proofs.Common.{◌≡◌, take}
use Rattle.std.specs.List.{flat_map}
use Rattle.iam_report.specs.Code.Buffer.{Passes}
use Rattle.iam_changes.specs.Code.Kept.{cell_behind}
use Rattle.iam_changes.specs.Code.Pieces.{row_text}
use Rattle.iam_changes.proofs.text.put_part.Given as goal

-- the rows so far, and the cell behind the last of them
abbrev pub invariant-loop-i : goal.invariant-loop-i
invariant-loop-i g l = record {
  rows : Passes (g.W.Write.contents l.initial.writer) (g.W.Write.contents l.writer) l.initial.kept.items l.kept.items (flat_map (row_text l.pieces) (take l.i l.part.rows));
  behind : l.behind ≡ cell_behind l.part l.i;
}
