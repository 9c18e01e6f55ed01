use Rattle.std.proofs.Common.{map, string_bytes, take}
use Rattle.iam_every.specs.Every.{every_of, row_of}
use Rattle.iam_every.specs.Made.{AreJoined, AreOfAction}
use Rattle.iam_every.proofs.RowLemmas.{AreRowsOfActions}
use Rattle.iam_every.proofs.rows.rows_for_all.Given as goal

abbrev pub invariant-loop-i : goal.invariant-loop-i
invariant-loop-i l = record {
  rows : AreRowsOfActions (every_of l.given.asked) l.given.p (map string_bytes (take l.i l.actions)) (map row_of l.rows.items);
  made : AreJoined (AreOfAction (every_of l.given.asked) l.given.p) (map string_bytes (take l.i l.actions)) (map row_of l.rows.items);
}
