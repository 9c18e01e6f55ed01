use Rattle.std.proofs.Common.{◌≡◌, ◌∙◌, Some, ap, sym, subst}
use Rattle.std.proofs.lemmas.Option.{slice_get-get_or, slice_get_within}
use Rattle.std.specs.List.{slice_get}
use Rattle.iam_decision.specs.Living.{SharedValue}
use Rattle.iam_classes.specs.Memo.{MemoValue}
use Rattle.iam_classes.specs.declared.memo.Class.{Class}
use Rattle.iam_index.proofs.ListLemmas.{some_same}
use Rattle.iam_classes.proofs.memo.Memo.frame.Goals as goal

pub returns : goal.returns
returns c = λ it at.
    let n = c.args.class in
    let classes = c.self.inside.classes.items in
    let here = c.index.result.now in
    let C : MemoValue → Type 0 = λ memo. slice_get memo.classes n ≡ Some it in
    let there : slice_get classes n ≡ Some it = subst C (sym c.self.view_is) at in
    let read : slice_get classes n ≡ Some here = slice_get-get_or classes n here (slice_get_within classes n it there) ∙ ap Some (sym c.index.ensures) in
    let own : it ≡ here = some_same it here (sym there ∙ read) in
    c.frame.ensures ∙ ap (λ (s : SharedValue). s.frame) c.get.ensures ∙ ap (λ (x : Class). x.shared.frame) (sym own)
