use Rattle.std.proofs.Common.{arith, refl, sym, ◌∙◌}
use Rattle.iam_match.specs.Code.Compared.{TextDiffers}
use Rattle.iam_match.proofs.StatementLemmas.{all_taken, of_pattern, one_more, tells_other}
use Rattle.iam_match.proofs.resource.all_differ.Goals as goal

pub loop-text-preserved : goal.loop-text-preserved
loop-text-preserved c =
    let answer = c.in_ok-answer.field-0 in
    let told = of_pattern c.args.context.now c.text-item.result c.args.resource.now answer c.in_ok-answer.ensures in
    one_more (TextDiffers c.args.context.now c.args.resource.now) c.args.texts.now c.loop-text.text-index c.text-item.result
    c.loop-text-test.true c.text-item.is c.loop-text.invariant (tells_other answer told (sym c.ne.ensures ∙ c.if-ne.false))

pub returns : goal.returns
returns c =
    let all = all_taken (TextDiffers c.args.context.now c.args.resource.now) c.args.texts.now c.loop-text.text-index
    (omega (arith, c.loop-text-test.false)) c.loop-text.invariant in
    (λ t. all, λ differ. refl)
