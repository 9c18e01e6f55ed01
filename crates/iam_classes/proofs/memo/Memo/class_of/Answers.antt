use Rattle.std.proofs.Common.{ℕ, List, Option, IfSome, subst}
use Rattle.iam_columns.specs.Slots.{Keeps}
use Rattle.iam_classes.specs.Memo.{HasClass, MemoValue}
use Rattle.iam_columns.specs.declared.numbered.Numbered.{Numbered}
use Rattle.iam_index.proofs.ListLemmas.{if_some}
use Rattle.iam_classes.proofs.memo.Memo.class_of.Goals as goal

pub returns : goal.returns
returns c =
    let own = c.self.inside in
    let p = c.args.p in
    let r = c.args.r in
    let slot = c.slot_at-slot.result in
    let of : ℕ → Numbered = λ class. record { one = p; other = r; number = class } in
    let M : MemoValue → Type 0 = λ memo. IfSome c.number_in.result (HasClass memo.world memo.classes p r) in
    let K : List (Option Numbered) → Type 0 = λ pairs. IfSome c.number_in.result (λ class. Keeps pairs slot (of class)) in
    subst M c.self.view_is
    (if_some (λ class. Keeps own.pairs.items slot (of class)) (λ class. HasClass own.world.now own.classes.items p r class) c.number_in.result
    (λ class kept. c.self.invariant.pairs_are slot (of class) kept) (subst K c.as_slice.ensures.value c.number_in.ensures.found))
