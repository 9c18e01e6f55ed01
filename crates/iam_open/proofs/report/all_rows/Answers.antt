use Rattle.std.proofs.Common.{◌≡◌, ◌∙◌, ◌+◌, [], ◌∷◌, ◌++◌, ap, string_bytes, sym, take}
use Rattle.iam_open.specs.Code.Parts.{all_together}
use Rattle.iam_open.specs.Rows.{together}
use Rattle.iam_open.proofs.ListLemmas.{taken_more}
use Rattle.iam_open.proofs.PartLemmas.{all_together_pushed}
use Rattle.iam_open.proofs.report.all_rows.Goals as goal

pub loop-part-preserved : goal.loop-part-preserved
loop-part-preserved c =
    let format = c.args.format in
    let parts = c.args.parts.now in
    let i = c.loop-part.part-index in
    let part = c.part-item.result in
    let more : take (i + 1) parts ≡ take i parts ++ (part ∷ []) = taken_more parts i part c.loop-part-test.true c.part-item.is in
    c.in_ok-put.ensures ∙ ap (λ it. together format (string_bytes c.loop-part.text) it) c.as_str.ensures.value
    ∙ ap (λ it. together format it (string_bytes part)) c.loop-part.invariant ∙ sym (all_together_pushed format [] (take i parts) part)
    ∙ ap (λ it. all_together format [] it) (sym more)
