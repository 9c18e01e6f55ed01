use Rattle.std.proofs.Common.{ℕ, List, Option, IfSome, subst}
use Rattle.iam_index.specs.Signs.{HasSign}
use Rattle.iam_index.specs.declared.signs.Sign.{Sign}
use Rattle.iam_classes.specs.Memo.{HasNumber, IsSign, MemoValue}
use Rattle.iam_index.proofs.ListLemmas.{if_some}
use Rattle.iam_classes.proofs.SignLemmas.{number_signed}
use Rattle.iam_classes.proofs.memo.Memo.number_of_sign.Goals as goal

pub returns : goal.returns
returns c =
    let own = c.self.inside in
    let world = own.world.now in
    let classes = own.classes.items in
    let rulings = own.rulings.items in
    let n = c.args.class in
    let word = c.args.word in
    let M : MemoValue → Type 0 = λ memo. IfSome c.number_signed.result
    (λ number. (a : ℕ) → IfSome word (IsSign memo.world memo.classes n a) → HasNumber memo.world memo.classes memo.rulings n a number) in
    let K : List (Option Sign) → Type 0 = λ signs. IfSome c.number_signed.result (HasSign signs n word) in
    subst M c.self.view_is
    (if_some (HasSign own.signs.items n word) (λ number. (a : ℕ) → IfSome word (IsSign world classes n a) → HasNumber world classes rulings n a number)
    c.number_signed.result (number_signed world classes rulings own.signs.items n word c.self.invariant.signs_are)
    (subst K c.as_slice.ensures.value c.number_signed.ensures))
