use Rattle.std.proofs.Common.{◌≡◌, ◌<◌, Bool, Bor, List, IfSome, Some, length, sym, ◌∙◌, ap, subst}
use Rattle.std.proofs.lemmas.Option.{slice_get-get_or}
use Rattle.std.specs.List.{slice_get}
use Rattle.iam_index.specs.Elements.{AreActRows}
use Rattle.iam_classes.specs.Memo.{IsSign, MemoValue}
use Rattle.iam_classes.proofs.SignLemmas.{signs_of}
use Rattle.iam_classes.proofs.memo.Memo.signature.Goals as goal

pub returns : goal.returns
returns c =
    let own = c.self.inside in
    let world = own.world.now in
    let classes = own.classes.items in
    let class = c.index.result.now in
    let n = c.args.class in
    let K : MemoValue → Type 0 = λ memo. n < length memo.classes in
    let there : slice_get classes n ≡ Some class =
    slice_get-get_or classes n class (subst K (sym c.self.view_is) c.requires) ∙ ap Some (sym c.index.ensures) in
    let M : MemoValue → Type 0 = λ memo. IfSome c.signature.result (IsSign memo.world memo.classes n c.args.a) in
    let R : List (Bor (List Bool)) → Type 0 = λ r. AreActRows world class.shared.living r in
    let rows = subst R (sym c.as_slice.ensures.value) (c.self.invariant.rows_are n class there) in
    subst M c.self.view_is
    (signs_of world classes n c.args.a c.signature.result class there (λ text asked. c.signature.ensures world class.shared.living text rows asked))
