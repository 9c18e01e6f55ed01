use Rattle.std.proofs.Common.{◌+◌, ◌++◌, ◌∷◌, [], ℕ, List, length, map, ap, sym, subst, ◌∙◌}
use Rattle.std.proofs.lemmas.List.{length-append}
use Rattle.iam_decision.specs.Code.Scan.{placed_value}
use Rattle.iam_index.specs.Index.{AreResourceLists, IsListOf, ListsResource}
use Rattle.iam_index.specs.declared.lists.Listed.{Listed}
use Rattle.iam_index.proofs.ListedLemmas.{has_same_list, resource_lists_more}
use Rattle.iam_index.proofs.lists.resource_lists.Goals as goal

pub loop-r-preserved : goal.loop-r-preserved
loop-r-preserved c =
    let world = c.args.world.now in
    let old = c.loop-r.lists.items in
    let numbers = c.loop-r.numbers.items in
    let statements = c.in_ok-statements.statements.items in
    let number = c.in_ok-number.number in
    let so_far = c.loop-r.invariant in
    let (more, grown) = c.in_ok-number.ensures.more in
    let Q : ℕ → Type 0 = λ n. ListsResource world n statements in
    let O : List Listed → Type 0 = λ lists. IsListOf lists number (map placed_value statements) in
    let H : List Listed → Type 0 = λ lists. AreResourceLists world lists (numbers ++ number ∷ []) in
    let N : List ℕ → Type 0 = λ all. AreResourceLists world c.list_number.new.lists.items all in
    let own = has_same_list world (old ++ more) (length numbers) number statements (subst O grown c.in_ok-number.ensures.number)
    (subst Q (sym so_far.count) c.in_ok-statements.ensures.listed) in
    record {
      right = c.in_ok-statements.ensures.right;
      count = ap (λ (all : List ℕ). length all) c.in_ok-push.ensures.items ∙ length-append numbers (number ∷ []) ∙ ap (λ n. n + 1) so_far.count;
      are = subst N (sym c.in_ok-push.ensures.items) (subst H (sym grown) (resource_lists_more world old more numbers number own so_far.are));
    }
