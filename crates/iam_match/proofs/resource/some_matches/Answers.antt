use Rattle.std.proofs.Common.{arith, sym, ◌∙◌}
use Rattle.iam_match.specs.Statement.{TextMatches}
use Rattle.iam_match.proofs.StatementLemmas.{all_taken, none_any, of_pattern, one_more, tells_none}
use Rattle.iam_match.proofs.resource.some_matches.Goals as goal

pub loop-text-preserved : goal.loop-text-preserved
loop-text-preserved c =
    let answer = c.in_ok-answer.field-0 in
    let told = of_pattern c.args.context.now c.text-item.result c.args.resource.now answer c.in_ok-answer.ensures in
    one_more (λ text. ¬ TextMatches c.args.context.now c.args.resource.now text) c.args.texts.now c.loop-text.text-index c.text-item.result
    c.loop-text-test.true c.text-item.is c.loop-text.invariant (tells_none _ _ answer told (sym c.eq.ensures ∙ c.if-eq.false))

pub returns : goal.returns
returns c =
    let P = TextMatches c.args.context.now c.args.resource.now in
    let none = all_taken (λ text. ¬ P text) c.args.texts.now c.loop-text.text-index (omega (arith, c.loop-text-test.false)) c.loop-text.invariant in
    (λ t. absurd (let wrong : ⊥ = cc in wrong), λ some. absurd (none_any P c.args.texts.now none some))
