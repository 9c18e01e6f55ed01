use Rattle.std.proofs.Common.{◌∙◌, arith, sym}
use Rattle.iam_engine.proofs.KnownLemmas.{Differs, all_differ, one_more}
use Rattle.iam_engine.proofs.cache.some_matches.Goals as goal

pub loop-text-preserved : goal.loop-text-preserved
loop-text-preserved c = (
  c.text_matches.ensures.same ∙ c.loop-text.invariant.0,
  λ context.
      let told = c.in_ok-text_matches.ensures.told context in
      one_more (Differs context c.args.arn.now) c.args.texts.now c.loop-text.text-index c.text-item.result c.loop-text-test.true c.text-item.is
      (c.loop-text.invariant.1 context) (told.0, λ m. let holds = told.1.1 m in let wrong : ⊥ = cc in wrong),
)

pub returns-then-branch-clause-told : goal.returns-then-branch-clause-told
returns-then-branch-clause-told c = λ context.
    let told = c.in_ok-text_matches.ensures.told context in
    (c.loop-text.text-index, c.text-item.result, c.loop-text-test.true, sym c.text-item.is, told.1.0 c.if-branch.true)

pub returns-clause-told : goal.returns-clause-told
returns-clause-told c = λ context.
    all_differ context c.args.arn.now c.args.texts.now c.loop-text.text-index (omega (arith, c.loop-text-test.false)) (c.loop-text.invariant.1 context)
