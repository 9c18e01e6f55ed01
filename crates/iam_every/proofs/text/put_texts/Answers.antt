use Rattle.std.proofs.Common.{◌++◌, ◌∙◌, ℕ, List, ap, string_bytes, subst}
use Rattle.std.proofs.lemmas.Result.{MatchResult-from_err}
use Rattle.iam_report.specs.Code.Buffer.{Passes}
use Rattle.iam_report.specs.Streams.{AppendsBeginning}
use Rattle.iam_report.proofs.Buffered.{texts_fail, texts_more}
use Rattle.iam_every.proofs.text.put_texts.Goals as goal

pub returns-in_err-put-clause-err : goal.returns-in_err-put-clause-err
returns-in_err-put-clause-err g c =
    let same = c.as_str.ensures.value ∙ ap string_bytes c.text-item.is in
    let P : List ℕ → Type 0 = λ text. AppendsBeginning (g.W.Write.contents c.loop-text.writer) (g.W.Write.contents c.put.new.writer) (c.loop-text.kept.items ++ text) in
    MatchResult-from_err _ _ _ c.from_residual.ensures.0
    (λ _. texts_fail string_bytes c.args.texts.now c.loop-text.text-index c.text-item.result _ _ _ _ _ c.loop-text-test.true c.loop-text.invariant (subst P same c.in_err-put.ensures.err))

pub loop-text-preserved : goal.loop-text-preserved
loop-text-preserved g c =
    let same = c.as_str.ensures.value ∙ ap string_bytes c.text-item.is in
    let P : List ℕ → Type 0 = λ text. Passes (g.W.Write.contents c.loop-text.writer) (g.W.Write.contents c.put.new.writer) c.loop-text.kept.items c.put.new.kept.items text in
    texts_more string_bytes c.args.texts.now c.loop-text.text-index c.text-item.result _ _ _ _ _ _ c.loop-text-test.true c.loop-text.invariant (subst P same c.in_ok-put.ensures.ok)
