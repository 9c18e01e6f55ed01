use Rattle.std.proofs.Common.{◌+◌, ◌++◌, List, [], ◌∷◌, get_or, take, sym, ap, subst, ◌∙◌, String, Global}
use Rattle.std.specs.List.{AllZip}
use Rattle.std.specs.Prelude.{string_bytes}
use Rattle.std.proofs.lemmas.List.{take_more}
use Rattle.std.proofs.lemmas.Slice.Zip.{all_zipped_more}
use Rattle.iam_app.specs.Selected.{Means}
use Rattle.iam_app.proofs.selected.decisions.Goals as goal

pub loop-word-preserved : goal.loop-word-preserved
loop-word-preserved c =
    let words = c.args.words.now in
    let i = c.loop-word.word-index in
    let word = get_or words i c.word-item.result in
    let means : Means word c.decision.result = λ said e. c.decision.ensures said (c.as_str.ensures.value ∙ ap (λ (w : String Global). string_bytes w) c.word-item.is ∙ e) in
    let both = all_zipped_more Means (take i words) c.loop-word.decisions.items word c.decision.result c.loop-word.invariant means in
    subst (λ ds. AllZip Means (take (i + 1) words) ds) (sym c.in_ok-push.ensures.items)
    (subst (λ (ws : List (String Global)). AllZip Means ws (c.loop-word.decisions.items ++ c.decision.result ∷ [])) (sym (take_more words i c.word-item.result c.loop-word-test.true)) both)
