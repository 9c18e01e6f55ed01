use Rattle.std.proofs.Common.{◌≡◌, Some, length}
use Rattle.iam_columns.specs.Rows.{Tell, TellsMatch}
use Rattle.iam_columns.proofs.rows.matches_of.Given as goal

abbrev pub invariant-loop-r : goal.invariant-loop-r
invariant-loop-r l = record {
  count : length l.matches.items ≡ l.r;
  are : Tell (TellsMatch l.world (Some l.fixed)) l.matches.items;
}
