use Rattle.std.proofs.Common.{◌≡◌, ◌+◌, ◌<◌, [], Bool, Bor, List, get_or, length, map, take, sym, ◌∙◌, ap, subst, arith}
use Rattle.std.proofs.lemmas.List.{get_or-map, length-map, take_all}
use Rattle.iam_decision.specs.Living.{LivingValue, living_value}
use Rattle.iam_index.specs.Elements.{AreActRows}
use Rattle.iam_index.proofs.ElementLemmas.{row_more}
use Rattle.iam_index.proofs.elements.Elements.rows.Goals as goal

pub loop-statement-init : goal.loop-statement-init
loop-statement-init c = λ world right.
    let P : List (Bor (List Bool)) → Type 0 = AreActRows world [] in subst P (sym c.in_ok-rows.ensures.items) tt

pub loop-statement-preserved : goal.loop-statement-preserved
loop-statement-preserved c = λ world right.
    let living = c.args.living.now in
    let xs : List LivingValue = map living_value living in
    let i = c.loop-statement.statement-index in
    let y = c.statement-item.result in
    let x : LivingValue = living_value y in
    let rows = c.loop-statement.rows.items in
    let row = c.row.result in
    let inside : i < length living = c.loop-statement-test.true in
    let long : length xs ≡ length living = length-map living living_value in
    let below : i < length xs = omega (arith, long, inside) in
    let is : x ≡ get_or xs i x = ap living_value c.statement-item.is ∙ sym (get_or-map living_value living i y x inside) in
    let P : List (Bor (List Bool)) → Type 0 = AreActRows world (take (i + 1) xs) in
    subst P (sym c.in_ok-push.ensures.items)
    (row_more world xs i x rows row below is (c.loop-statement.invariant world right) (c.row.ensures world right))

pub returns : goal.returns
returns c = λ world right.
    let xs : List LivingValue = map living_value c.args.living.now in
    let long : length xs ≡ length c.args.living.now = length-map c.args.living.now living_value in
    let P : List LivingValue → Type 0 = λ l. AreActRows world l c.loop-statement.rows.items in
    subst P (take_all c.loop-statement.statement-index xs (omega (arith, long, c.loop-statement-test.false))) (c.loop-statement.invariant world right)
