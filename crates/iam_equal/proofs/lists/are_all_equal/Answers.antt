use Rattle.std.proofs.Common.{◌≡◌, ◌<◌, length, get_or, map, ap, sym, ◌∙◌, arith}
use Rattle.std.proofs.lemmas.List.{get_or-map, length-map, take_more_same}
use Rattle.iam_decision.specs.Code.Scan.{placed_value}
use Rattle.iam_equal.proofs.lists.are_all_equal.Goals as goal

pub loop-i-preserved : goal.loop-i-preserved
loop-i-preserved c =
    let ones = c.args.ones.now in
    let others = c.args.others.now in
    let i = c.loop-i.i in
    let x = c.index-ones-i.result in
    let y = c.index-others-i.result in
    let d = placed_value x in
    let one : i < length ones = c.loop-i-test.true in
    let other : i < length others = omega (arith, one, c.if-ones-others.false) in
    let same : get_or (map placed_value ones) i d ≡ get_or (map placed_value others) i d =
    get_or-map placed_value ones i x d one ∙ sym (ap placed_value c.index-ones-i.is) ∙ c.is_same.ensures c.if-not-is_same.false
    ∙ ap placed_value c.index-others-i.is ∙ sym (get_or-map placed_value others i y d other) in
    take_more_same (map placed_value ones) (map placed_value others) i d
    (omega (arith, one, length-map ones placed_value)) (omega (arith, other, length-map others placed_value)) c.loop-i.invariant same
