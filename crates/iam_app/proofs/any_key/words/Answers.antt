use Rattle.std.proofs.Common.{◌+◌, ◌++◌, List, [], ◌∷◌, get_or, take, sym, ap, subst, ◌∙◌, String, Global}
use Rattle.std.specs.List.{AllZip}
use Rattle.std.specs.Prelude.{string_bytes}
use Rattle.std.proofs.lemmas.List.{take_more}
use Rattle.std.proofs.lemmas.Slice.Zip.{all_zipped_more}
use Rattle.iam_app.specs.AnyKey.{MeansWord}
use Rattle.iam_app.proofs.any_key.words.Goals as goal

pub loop-text-preserved : goal.loop-text-preserved
loop-text-preserved c =
    let words = c.args.texts.now in
    let i = c.loop-text.text-index in
    let word = get_or words i c.text-item.result in
    let same = c.as_str.ensures.value ∙ ap (λ (w : String Global). string_bytes w) c.text-item.is in
    let means : MeansWord word c.word.result =
    ((λ said e. c.word.ensures.means said (same ∙ e)), (λ none. c.word.ensures.other (λ said e. none said (sym same ∙ e)))) in
    let both = all_zipped_more MeansWord (take i words) c.loop-text.words.items word c.word.result c.loop-text.invariant means in
    subst (λ ds. AllZip MeansWord (take (i + 1) words) ds) (sym c.in_ok-push.ensures.items)
    (subst (λ (ws : List (String Global)). AllZip MeansWord ws (c.loop-text.words.items ++ c.word.result ∷ [])) (sym (take_more words i c.text-item.result c.loop-text-test.true)) both)
