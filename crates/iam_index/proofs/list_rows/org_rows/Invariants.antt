use Rattle.std.proofs.Common.{◌≡◌, ◌++◌, List, length}
use Rattle.iam_columns.specs.Rows.{AreRows}
use Rattle.iam_index.specs.Rows.{AreListRows}
use Rattle.iam_index.specs.declared.lists.Org.{Org}
use Rattle.iam_columns.specs.declared.rows.Row.{Row}
use Rattle.iam_index.proofs.list_rows.org_rows.Given as goal

abbrev pub invariant-loop-org : goal.invariant-loop-org
invariant-loop-org l = record {
  right : AreRows l.world l.initial.rows.rows.items → AreRows l.world l.rows.rows.items;
  more : (more : List Row) × (l.rows.rows.items ≡ l.initial.rows.rows.items ++ more);
  count : length l.known.items ≡ l.org-index;
  are : AreListRows (λ (org : Org). org.statements.items) l.rows.rows.items l.orgs l.known.items;
}
