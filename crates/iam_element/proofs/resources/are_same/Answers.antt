use Rattle.std.proofs.Common.{arith, below_more, sym, ◌∙◌}
use Rattle.std.proofs.lemmas.Option.{get_or_from_slice_get, slice_get_within}
use Rattle.iam_element.proofs.SameLemmas.{SameAt, same_lists}
use Rattle.iam_element.proofs.resources.are_same.Goals as goal

pub loop-i-preserved : goal.loop-i-preserved
loop-i-preserved c =
    let ones = c.args.ones.now in
    let others = c.args.others.now in
    let i = c.loop-i.i in
    below_more (SameAt ones others) i c.loop-i.invariant
    (λ x y at there.
    sym (get_or_from_slice_get ones i x c.index-ones-i.result at) ∙ sym c.index-ones-i.is ∙ c.is_same.ensures c.if-not-is_same.false
    ∙ c.index-others-i.is ∙ get_or_from_slice_get others i y c.index-others-i.result there)

pub returns : goal.returns
returns c = λ _.
    same_lists c.args.ones.now c.args.others.now c.if-ones-others.false
    (λ i x y at there. c.loop-i.invariant i (let within = slice_get_within c.args.ones.now i x at in omega (arith, within, c.loop-i-test.false)) x y at there)
