use Rattle.std.proofs.Common.{map, string_bytes, take}
use Rattle.iam_every.specs.Code.Rows.{AreOfMatched, AreRowsOn, IsNamedAmong}
use Rattle.iam_every.specs.Every.{every_of, row_of}
use Rattle.iam_every.specs.Made.{AreJoined}
use Rattle.std.specs.Arc.{arc_value}
use Rattle.iam_every.proofs.rows.named_rows.Given as goal

abbrev pub invariant-loop-told : goal.invariant-loop-told
invariant-loop-told l = record {
  rows : AreRowsOn (every_of l.given.asked) l.given.p (string_bytes (arc_value l.action)) (IsNamedAmong (every_of l.given.asked) (take l.told-index l.given.matched.now))
      (map row_of l.rows.items);
  made : AreJoined (AreOfMatched (every_of l.given.asked) l.given.p (string_bytes (arc_value l.action))) (take l.told-index l.given.matched.now) (map row_of l.rows.items);
}
