use Rattle.std.proofs.Common.{◌+◌, ◌∷◌, [], ℕ, List, Option, Some, length, ap, sym, subst, ◌∙◌}
use Rattle.std.proofs.lemmas.List.{length-append}
use Rattle.std.proofs.lemmas.Option.{slice_get-get_or}
use Rattle.std.specs.List.{slice_get}
use Rattle.iam_columns.specs.Rows.{AreStatementRows}
use Rattle.iam_columns.proofs.RowLemmas.{more_and_more, statement_rows_grow, statement_rows_more}
use Rattle.iam_columns.proofs.rows.Rows.of_statements.Goals as goal

pub loop-standing-preserved : goal.loop-standing-preserved
loop-standing-preserved c =
    let statements = c.args.statements.now in
    let i = c.loop-standing.standing-index in
    let standing = c.standing-item.result in
    let before = c.args.self.now.rows.items in
    let old = c.loop-standing.self.rows.items in
    let new = c.of_statement-row.new.self.rows.items in
    let numbers = c.loop-standing.rows.items in
    let number = c.of_statement-row.result in
    let so_far = c.loop-standing.invariant in
    let made = c.of_statement-row.ensures in
    let (more, grown) = made.more in
    let at = slice_get-get_or statements i standing c.loop-standing-test.true ∙ ap Some (sym c.standing-item.is) in
    let here = ap (slice_get statements) so_far.count ∙ at in
    let P : List (Option ℕ) → Type 0 = λ all. AreStatementRows new statements all in
    record {
      right = λ right. made.right (so_far.right right);
      more = more_and_more before old new so_far.more made.more;
      count = ap (λ (all : List (Option ℕ)). length all) c.in-Ok.ensures.items ∙ length-append numbers (number ∷ []) ∙ ap (λ n. n + 1) so_far.count;
      are = subst P (sym c.in-Ok.ensures.items) (statement_rows_more old more new statements numbers standing number grown here made.row so_far.are);
    }

pub returns-in-Err-clause-right : goal.returns-in-Err-clause-right
returns-in-Err-clause-right c = λ right. c.of_statement-row.ensures.right (c.loop-standing.invariant.right right)

pub returns-in-Err-clause-rows : goal.returns-in-Err-clause-rows
returns-in-Err-clause-rows c =
    let new = c.of_statement-row.new.self.rows.items in
    let (more, grown) = c.of_statement-row.ensures.more in
    let P : List (Option ℕ) → Type 0 = λ all. AreStatementRows new c.args.statements.now all in
    subst P (sym c.in-Err.ensures.items)
    (statement_rows_grow c.loop-standing.self.rows.items more new c.args.statements.now c.loop-standing.rows.items grown c.loop-standing.invariant.are)
