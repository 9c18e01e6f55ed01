use Rattle.std.proofs.Common.{◌+◌, ◌++◌, ◌∷◌, [], ℕ, List, length, ap, sym, subst, ◌∙◌}
use Rattle.std.proofs.lemmas.List.{length-append}
use Rattle.iam_index.specs.Index.{HasOrg, HaveOrgs}
use Rattle.iam_index.specs.declared.lists.Org.{Org}
use Rattle.iam_index.proofs.ListedLemmas.{have_orgs_more}
use Rattle.iam_index.proofs.lists.org_lists.Goals as goal

pub loop-p-preserved : goal.loop-p-preserved
loop-p-preserved c =
    let world = c.args.world.now in
    let old = c.loop-p.orgs.items in
    let numbers = c.loop-p.numbers.items in
    let number = c.in_ok-number.number in
    let so_far = c.loop-p.invariant in
    let (more, grown) = c.in_ok-number.ensures.more in
    let Q : ℕ → Type 0 = λ n. HasOrg world (old ++ more) n number in
    let O : List Org → Type 0 = λ orgs. HasOrg world orgs c.loop-p.p number in
    let H : List Org → Type 0 = λ orgs. HaveOrgs world orgs (numbers ++ number ∷ []) in
    let N : List ℕ → Type 0 = λ all. HaveOrgs world c.org_number.new.orgs.items all in
    let own = subst Q (sym so_far.count) (subst O grown c.in_ok-number.ensures.number) in
    record {
      right = c.in_ok-number.ensures.right;
      orgs = c.in_ok-number.ensures.orgs;
      count = ap (λ (all : List ℕ). length all) c.in_ok-push.ensures.items ∙ length-append numbers (number ∷ []) ∙ ap (λ n. n + 1) so_far.count;
      have = subst N (sym c.in_ok-push.ensures.items) (subst H (sym grown) (have_orgs_more world old more numbers number own so_far.have));
    }
