use Rattle.std.proofs.Common.{◌≡◌, length}
use Rattle.iam_columns.specs.Rows.{AreRows}
use Rattle.iam_columns.proofs.ColumnLemmas.{HaveFirsts}
use Rattle.iam_columns.proofs.columns.numbers_of.Given as goal

abbrev pub invariant-loop-r : goal.invariant-loop-r
invariant-loop-r l = record {
  count : length l.numbers.items ≡ l.r;
  are : AreRows l.world l.rows → HaveFirsts l.world l.rows l.firsts.firsts.items l.numbers.items;
}
