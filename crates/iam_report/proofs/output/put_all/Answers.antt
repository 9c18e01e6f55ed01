use Rattle.std.proofs.Common.{Bor, List, ℕ}
use Rattle.std.proofs.lemmas.Result.{MatchResult-from_err}
use Rattle.iam_report.proofs.Buffered.{texts_fail, texts_more}
use Rattle.iam_report.proofs.output.put_all.Goals as goal

pub returns-in_err-put-clause-err : goal.returns-in_err-put-clause-err
returns-in_err-put-clause-err g c =
    MatchResult-from_err _ _ _ c.from_residual.ensures.0
    (λ _. texts_fail (λ (text : Bor (List ℕ)). text.now) c.args.texts.now c.loop-text.text-index _ _ _ _ _ _ c.loop-text-test.true c.loop-text.invariant c.in_err-put.ensures.err)

pub loop-text-preserved : goal.loop-text-preserved
loop-text-preserved g c =
    texts_more (λ (text : Bor (List ℕ)). text.now) c.args.texts.now c.loop-text.text-index _ _ _ _ _ _ _ c.loop-text-test.true c.loop-text.invariant c.in_ok-put.ensures.ok
