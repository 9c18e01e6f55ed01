use Rattle.std.proofs.Common.{◌+◌, ◌∷◌, [], List, Some, length, ap, sym, subst, ◌∙◌}
use Rattle.std.proofs.lemmas.List.{length-append}
use Rattle.std.proofs.lemmas.Option.{slice_get-get_or}
use Rattle.std.specs.List.{slice_get}
use Rattle.iam_decision.specs.declared.scan.Standing.{Standing}
use Rattle.iam_index.specs.Rows.{AreListRows, IsListRows}
use Rattle.iam_index.specs.declared.list_rows.ListRows.{ListRows}
use Rattle.iam_index.specs.declared.lists.Org.{Org}
use Rattle.iam_columns.proofs.RowLemmas.{more_and_more}
use Rattle.iam_index.proofs.RowLemmas.{list_rows_grow, list_rows_more}
use Rattle.iam_index.proofs.list_rows.org_rows.Goals as goal

pub loop-org-preserved : goal.loop-org-preserved
loop-org-preserved c =
    let lists = c.args.orgs.now in
    let i = c.loop-org.org-index in
    let list = c.org-item.result in
    let before = c.args.rows.now.rows.items in
    let old = c.loop-org.rows.rows.items in
    let new = c.list_rows-of_org.new.rows.rows.items in
    let known = c.loop-org.known.items in
    let numbers : ListRows = c.list_rows-of_org.result in
    let so_far = c.loop-org.invariant in
    let made = c.list_rows-of_org.ensures in
    let (more, grown) = made.more in
    let of : Org → List Standing = λ x. x.statements.items in
    let at = slice_get-get_or lists i list c.loop-org-test.true ∙ ap Some (sym c.org-item.is) in
    let here = ap (slice_get lists) so_far.count ∙ at in
    let S : List Standing → Type 0 = λ statements. IsListRows new statements numbers in
    let own = subst S c.as_slice.ensures.value made.are in
    let P : List ListRows → Type 0 = λ all. AreListRows of new lists all in
    record {
      right = λ right. made.right (so_far.right right);
      more = more_and_more before old new so_far.more made.more;
      count = ap (λ (all : List ListRows). length all) c.in-Ok.ensures.items ∙ length-append known (numbers ∷ []) ∙ ap (λ n. n + 1) so_far.count;
      are = subst P (sym c.in-Ok.ensures.items) (list_rows_more of old more new lists known list numbers grown here own so_far.are);
    }

pub returns-in-Err-clause-right : goal.returns-in-Err-clause-right
returns-in-Err-clause-right c = λ right. c.list_rows-of_org.ensures.right (c.loop-org.invariant.right right)

pub returns-in-Err-clause-are : goal.returns-in-Err-clause-are
returns-in-Err-clause-are c =
    let lists = c.args.orgs.now in
    let new = c.list_rows-of_org.new.rows.rows.items in
    let (more, grown) = c.list_rows-of_org.ensures.more in
    let of : Org → List Standing = λ x. x.statements.items in
    let P : List ListRows → Type 0 = λ all. AreListRows of new lists all in
    subst P (sym c.in-Err.ensures.items)
    (list_rows_grow of c.loop-org.rows.rows.items more new lists c.loop-org.known.items grown c.loop-org.invariant.are)
