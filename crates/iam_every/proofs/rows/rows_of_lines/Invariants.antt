use Rattle.std.proofs.Common.{map, string_bytes}
use Rattle.std.specs.List.{range_with_len}
use Rattle.iam_every.specs.Code.Rows.{AreRowsOn, IsLinedBelow}
use Rattle.iam_every.specs.Every.{every_of, row_of}
use Rattle.iam_every.specs.Made.{AreJoined, AreOfLine}
use Rattle.std.specs.Arc.{arc_value}
use Rattle.iam_every.proofs.rows.rows_of_lines.Given as goal

abbrev pub invariant-loop-told : goal.invariant-loop-told
invariant-loop-told l = record {
  rows : AreRowsOn (every_of l.given.asked) l.given.p (string_bytes (arc_value l.action)) (IsLinedBelow (every_of l.given.asked) l.told-index) (map row_of l.rows.items);
  made : AreJoined (AreOfLine (every_of l.given.asked) l.given.p (string_bytes (arc_value l.action))) (range_with_len 0 l.told-index) (map row_of l.rows.items);
}
