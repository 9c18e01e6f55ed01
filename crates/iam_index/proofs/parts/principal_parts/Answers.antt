use Rattle.std.proofs.Common.{◌+◌, ◌∷◌, [], ℕ, List, length, ap, sym, subst, ◌∙◌}
use Rattle.std.proofs.lemmas.List.{length-append}
use Rattle.iam_context.specs.Context.{ContextValue}
use Rattle.iam_index.specs.Parts.{AreAt, GivesPrincipal}
use Rattle.iam_index.proofs.ListLemmas.{at_more}
use Rattle.iam_index.proofs.parts.principal_parts.Goals as goal

pub loop-p-preserved : goal.loop-p-preserved
loop-p-preserved c =
    let P : ℕ → ContextValue → Type 0 = GivesPrincipal c.args.world.now in
    let parts = c.loop-p.parts.items in
    let keys = c.in_ok-keys in
    let so_far = c.loop-p.invariant in
    let Q : ℕ → Type 0 = λ n. P n keys.keys in
    let L : List ContextValue → Type 0 = λ all. AreAt P all in
    record {
      count = ap (λ (all : List ContextValue). length all) c.in_ok-push.ensures.items ∙ length-append parts (keys.keys ∷ []) ∙ ap (λ n. n + 1) so_far.count;
      are = subst L (sym c.in_ok-push.ensures.items) (at_more P parts keys.keys (subst Q (sym so_far.count) keys.ensures) so_far.are);
    }
