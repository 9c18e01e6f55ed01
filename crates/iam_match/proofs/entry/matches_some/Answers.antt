use Rattle.std.proofs.Common.{arith, refl, sym, ◌∙◌}
use Rattle.iam_match.specs.Entry.{ValueMatches}
use Rattle.iam_match.proofs.CompareLemmas.{compared}
use Rattle.iam_match.proofs.StatementLemmas.{one_more, all_taken, none_any, some_is, tells_match, tells_none}
use Rattle.iam_match.proofs.entry.matches_some.Goals as goal

pub returns-then-eq : goal.returns-then-eq
returns-then-eq c = λ base text is.
    let answer = c.in_ok-compare.field-0 in
    let told = compared c.args.context.now base text c.value-item.result answer (c.in_ok-compare.ensures base text is) in (
      λ t. some_is (ValueMatches c.args.context.now base text) c.args.values.now c.loop-value.value-index c.value-item.result
          c.loop-value-test.true c.value-item.is (tells_match _ _ answer told (sym c.eq.ensures ∙ c.if-eq.true)),
      λ some. refl,
    )

pub loop-value-preserved : goal.loop-value-preserved
loop-value-preserved c = λ base text is.
    let answer = c.in_ok-compare.field-0 in
    let told = compared c.args.context.now base text c.value-item.result answer (c.in_ok-compare.ensures base text is) in
    one_more (λ value. ¬ ValueMatches c.args.context.now base text value) c.args.values.now c.loop-value.value-index c.value-item.result
    c.loop-value-test.true c.value-item.is (c.loop-value.invariant base text is) (tells_none _ _ answer told (sym c.eq.ensures ∙ c.if-eq.false))

pub returns : goal.returns
returns c = λ base text is.
    let P = ValueMatches c.args.context.now base text in
    let none = all_taken (λ value. ¬ P value) c.args.values.now c.loop-value.value-index (omega (arith, c.loop-value-test.false))
    (c.loop-value.invariant base text is) in
    (λ t. absurd (let wrong : ⊥ = cc in wrong), λ some. absurd (none_any P c.args.values.now none some))
