use Rattle.std.proofs.Common.{◌≡◌, ◌++◌, List, length}
use Rattle.iam_columns.specs.Rows.{AreRows, AreStatementRows}
use Rattle.iam_columns.specs.declared.rows.Row.{Row}
use Rattle.iam_columns.proofs.rows.Rows.of_statements.Given as goal

abbrev pub invariant-loop-standing : goal.invariant-loop-standing
invariant-loop-standing l = record {
  right : AreRows l.world l.initial.self.rows.items → AreRows l.world l.self.rows.items;
  more : (more : List Row) × (l.self.rows.items ≡ l.initial.self.rows.items ++ more);
  count : length l.rows.items ≡ l.standing-index;
  are : AreStatementRows l.self.rows.items l.statements l.rows.items;
}
