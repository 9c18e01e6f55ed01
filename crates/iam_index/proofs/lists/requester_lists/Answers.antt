use Rattle.std.proofs.Common.{◌+◌, ◌∷◌, [], ℕ, List, length, ap, sym, subst, ◌∙◌}
use Rattle.std.proofs.lemmas.List.{length-append}
use Rattle.iam_index.specs.Index.{AreLists, ListsRequester}
use Rattle.iam_index.specs.declared.lists.Listed.{Listed}
use Rattle.iam_index.proofs.ListedLemmas.{lists_more}
use Rattle.iam_index.proofs.lists.requester_lists.Goals as goal

pub loop-p-preserved : goal.loop-p-preserved
loop-p-preserved c =
    let world = c.args.world.now in
    let lists = c.loop-p.lists.items in
    let so_far = c.loop-p.invariant in
    let listed : Listed = record { statements = c.in_ok-statements.statements } in
    let Q : ℕ → Type 0 = λ n. ListsRequester world n c.in_ok-statements.statements.items in
    let L : List Listed → Type 0 = λ all. AreLists (ListsRequester world) all in
    let own = subst Q (sym so_far.count) c.in_ok-statements.ensures.listed in
    record {
      right = c.in_ok-statements.ensures.right;
      count = ap (λ (all : List Listed). length all) c.in_ok-push.ensures.items ∙ length-append lists (listed ∷ []) ∙ ap (λ n. n + 1) so_far.count;
      are = subst L (sym c.in_ok-push.ensures.items) (lists_more (ListsRequester world) lists listed own so_far.are);
    }
