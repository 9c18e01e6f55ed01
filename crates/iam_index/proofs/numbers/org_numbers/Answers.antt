use Rattle.std.proofs.Common.{◌+◌, ◌∷◌, [], ℕ, List, Option, Some, length, ap, sym, subst, ◌∙◌}
use Rattle.std.proofs.lemmas.List.{length-append}
use Rattle.std.proofs.lemmas.Option.{slice_get-get_or}
use Rattle.std.specs.Global.{Vec}
use Rattle.std.specs.List.{slice_get}
use Rattle.iam_decision.specs.declared.scan.Standing.{Standing}
use Rattle.iam_index.specs.Numbers.{AreAllNumbered, AreNumbered}
use Rattle.iam_index.specs.declared.lists.Org.{Org}
use Rattle.iam_index.proofs.NumberLemmas.{all_numbered_more, none_numbered}
use Rattle.iam_index.proofs.numbers.org_numbers.Goals as goal

pub loop-org-init : goal.loop-org-init
loop-org-init c = record {
  count = ap length c.in_ok-known.ensures.items;
  are =
      none_numbered (λ (org : Org). org.statements.items) c.args.elements.now.elements.items c.args.orgs.now c.in_ok-known.known.items c.in_ok-known.ensures.items;
}

pub loop-org-preserved : goal.loop-org-preserved
loop-org-preserved c =
    let elements = c.args.elements.now.elements.items in
    let lists = c.args.orgs.now in
    let i = c.loop-org.org-index in
    let list = c.org-item.result in
    let known = c.loop-org.known.items in
    let numbers = c.in_ok-numbers_of.field-0 in
    let so_far = c.loop-org.invariant in
    let of : Org → List Standing = λ x. x.statements.items in
    let at = slice_get-get_or lists i list c.loop-org-test.true ∙ ap Some (sym c.org-item.is) in
    let here = ap (slice_get lists) so_far.count ∙ at in
    let S : List Standing → Type 0 = λ statements. AreNumbered elements statements numbers.items in
    let own = subst S c.as_slice.ensures.value c.in_ok-numbers_of.ensures in
    let P : List (Vec (Option ℕ)) → Type 0 = AreAllNumbered of elements lists in
    record {
      count = ap length c.in_ok-push.ensures.items ∙ length-append known (numbers ∷ []) ∙ ap (λ n. n + 1) so_far.count;
      are = subst P (sym c.in_ok-push.ensures.items) (all_numbered_more of elements lists known list numbers here own so_far.are);
    }
