use Rattle.std.proofs.Common.{ℕ, List, Option, IfSome, subst}
use Rattle.iam_columns.specs.Slots.{Keeps}
use Rattle.iam_classes.specs.Memo.{HasNumber, MemoValue}
use Rattle.iam_columns.specs.declared.numbered.Numbered.{Numbered}
use Rattle.iam_index.proofs.ListLemmas.{if_some}
use Rattle.iam_classes.proofs.memo.Memo.number_of.Goals as goal

pub returns : goal.returns
returns c =
    let own = c.self.inside in
    let n = c.args.class in
    let a = c.args.a in
    let slot = c.slot_of-slot.result in
    let of : ℕ → Numbered = λ number. record { one = n; other = a; number = number } in
    let M : MemoValue → Type 0 = λ memo. IfSome c.number_in.result (HasNumber memo.world memo.classes memo.rulings n a) in
    let K : List (Option Numbered) → Type 0 = λ answers. IfSome c.number_in.result (λ number. Keeps answers slot (of number)) in
    subst M c.self.view_is
    (if_some (λ number. Keeps own.answers.items slot (of number)) (λ number. HasNumber own.world.now own.classes.items own.rulings.items n a number)
    c.number_in.result (λ number kept. c.self.invariant.answers_are slot (of number) kept) (subst K c.as_slice.ensures.value c.number_in.ensures.found))
