use Rattle.std.proofs.Common.{refl, arith, subst, sym, ◌∙◌}
use Rattle.iam_match.specs.Code.Asked.{ValueDiffers}
use Rattle.iam_match.proofs.CompareLemmas.{compared}
use Rattle.iam_match.proofs.StatementLemmas.{one_more, all_taken, tells_other, tells_no_other}
use Rattle.iam_match.proofs.entry.differs_from_all.Goals as goal

pub returns-then-ne : goal.returns-then-ne
returns-then-ne c = λ base text is.
    let answer = c.in_ok-compare.field-0 in
    let value = c.value-item.result in
    let told = compared c.args.context.now base text value answer (c.in_ok-compare.ensures base text is) in
    let P = ValueDiffers c.args.context.now base text in (
      λ t. absurd (let wrong : ⊥ = cc in wrong),
      λ all. absurd (tells_no_other answer told (sym c.ne.ensures ∙ c.if-ne.true)
          (subst P (sym c.value-item.is) (all c.loop-value.value-index value c.loop-value-test.true))),
    )

pub loop-value-preserved : goal.loop-value-preserved
loop-value-preserved c = λ base text is.
    let answer = c.in_ok-compare.field-0 in
    let told = compared c.args.context.now base text c.value-item.result answer (c.in_ok-compare.ensures base text is) in
    one_more (ValueDiffers c.args.context.now base text) c.args.values.now c.loop-value.value-index c.value-item.result
    c.loop-value-test.true c.value-item.is (c.loop-value.invariant base text is) (tells_other answer told (sym c.ne.ensures ∙ c.if-ne.false))

pub returns : goal.returns
returns c = λ base text is.
    let all = all_taken (ValueDiffers c.args.context.now base text) c.args.values.now c.loop-value.value-index
    (omega (arith, c.loop-value-test.false)) (c.loop-value.invariant base text is) in
    (λ t. all, λ differ. refl)
