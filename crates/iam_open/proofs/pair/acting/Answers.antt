use Rattle.std.proofs.Common.{◌≡◌, ◌≤◌, List, arith, length, map, subst, sym}
use Rattle.std.proofs.lemmas.List.{length-map, take_all}
use Rattle.iam_decision.specs.Matched.{Placed}
use Rattle.iam_open.specs.Code.Bounds.{AreBounds}
use Rattle.iam_open.specs.Code.Known.{Follows}
use Rattle.iam_open.specs.Code.Pairs.{IsChance, placed_of}
use Rattle.iam_open.specs.declared.pair.Chance.{Chance}
use Rattle.iam_open.proofs.PairLemmas.{bounds_more, bounds_none}
use Rattle.iam_open.proofs.pair.acting.Goals as goal

pub loop-chance-init : goal.loop-chance-init
loop-chance-init c = λ access known all.
    bounds_none access c.args.action.now (Follows known access.context) c.new-bounds.result c.new-bounds.ensures.most c.new-bounds.ensures.least

pub loop-chance-preserved : goal.loop-chance-preserved
loop-chance-preserved c = λ access known all.
    let chances = c.args.chances.now in
    let i = c.loop-chance.chance-index in
    let chance = c.chance-item.result in
    let inside = c.loop-chance-test.true in
    let Are = Follows known access.context in
    let is = subst (λ (x : Chance). IsChance access Are x) (sym c.chance-item.is) (all i chance inside) in
    bounds_more access c.args.action.now Are chances i chance c.certain_on.result c.loop-chance.bounds c.add.new.self inside c.chance-item.is is
    (c.certain_on.ensures access known is) c.in_ok-add.ensures.most c.in_ok-add.ensures.least (c.loop-chance.invariant access known all)

pub returns : goal.returns
returns c = λ access known all.
    let chances = c.args.chances.now in
    let xs : List Placed = map placed_of chances in
    let i = c.loop-chance.chance-index in
    let long : length xs ≡ length chances = length-map chances placed_of in
    let past : length xs ≤ i = omega (arith, long, c.loop-chance-test.false) in
    subst (λ (l : List Placed). AreBounds access c.args.action.now (Follows known access.context) l c.loop-chance.bounds) (take_all i xs past)
    (c.loop-chance.invariant access known all)
