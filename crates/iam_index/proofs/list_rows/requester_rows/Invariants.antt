use Rattle.std.proofs.Common.{◌≡◌, ◌++◌, List, length}
use Rattle.iam_columns.specs.Rows.{AreRows}
use Rattle.iam_index.specs.Rows.{AreListRows}
use Rattle.iam_index.specs.declared.lists.Listed.{Listed}
use Rattle.iam_columns.specs.declared.rows.Row.{Row}
use Rattle.iam_index.proofs.list_rows.requester_rows.Given as goal

abbrev pub invariant-loop-listed : goal.invariant-loop-listed
invariant-loop-listed l = record {
  right : AreRows l.world l.initial.rows.rows.items → AreRows l.world l.rows.rows.items;
  more : (more : List Row) × (l.rows.rows.items ≡ l.initial.rows.rows.items ++ more);
  count : length l.known.items ≡ l.listed-index;
  are : AreListRows (λ (listed : Listed). listed.statements.items) l.rows.rows.items l.lists l.known.items;
}
