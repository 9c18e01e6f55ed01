use Rattle.std.proofs.Common.{ℕ, List, Option, refl, sym, subst}
use Rattle.iam_columns.specs.Rows.{AreStatementRows}
use Rattle.iam_index.proofs.list_rows.list_rows.Goals as goal

pub returns-clause-are : goal.returns-clause-are
returns-clause-are c =
    let known = c.of_statements-numbers.new.self.rows.items in
    let statements = c.args.statements.now in
    let are = c.of_statements-numbers.ensures.rows in
    let A : List (Option ℕ) → Type 0 = AreStatementRows known statements in
    record { are = are; told = c.have_rows-told.ensures statements known refl (subst A (sym c.as_slice.ensures.value) are) }
