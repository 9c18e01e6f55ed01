use Rattle.std.proofs.Common.{◌+◌, ◌∷◌, [], ℕ, List, Option, Some, length, ap, sym, subst, ◌∙◌}
use Rattle.std.proofs.lemmas.List.{length-append}
use Rattle.std.proofs.lemmas.Option.{slice_get-get_or}
use Rattle.std.specs.List.{slice_get}
use Rattle.iam_index.specs.Numbers.{AreNumbered}
use Rattle.iam_index.proofs.NumberLemmas.{is_number, no_numbers, numbered_more}
use Rattle.iam_index.proofs.numbers.numbers_of.Goals as goal

pub loop-standing-init : goal.loop-standing-init
loop-standing-init c = record {
  count = ap length c.in_ok-numbers.ensures.items;
  are = no_numbers c.args.elements.now.elements.items c.args.statements.now c.in_ok-numbers.numbers.items c.in_ok-numbers.ensures.items;
}

pub loop-standing-preserved : goal.loop-standing-preserved
loop-standing-preserved c =
    let elements = c.args.elements.now.elements.items in
    let statements = c.args.statements.now in
    let i = c.loop-standing.standing-index in
    let s = c.standing-item.result in
    let numbers = c.loop-standing.numbers.items in
    let so_far = c.loop-standing.invariant in
    let at = slice_get-get_or statements i s c.loop-standing-test.true ∙ ap Some (sym c.standing-item.is) in
    let here = ap (slice_get statements) so_far.count ∙ at in
    let number = c.number.result in
    let own = is_number elements c.action.result.now s number c.action.ensures c.number.ensures in
    let P : List (Option ℕ) → Type 0 = AreNumbered elements statements in
    record {
      count = ap length c.in_ok-push.ensures.items ∙ length-append numbers (number ∷ []) ∙ ap (λ n. n + 1) so_far.count;
      are = subst P (sym c.in_ok-push.ensures.items) (numbered_more elements statements numbers s number here own so_far.are);
    }
