use Rattle.std.proofs.Common.{◌-◌, List, Option, drop, length, subst, sym, take}
use Rattle.std.proofs.lemmas.List.{take_rest}
use Rattle.iam_columns.specs.Slots.{AllAre}
use Rattle.iam_classes.specs.Memo.{ArePairs, HasClass, MemoValue}
use Rattle.iam_columns.specs.declared.numbered.Numbered.{Numbered}
use Rattle.iam_classes.proofs.MemoLemmas.{pairs_behind}
use Rattle.iam_classes.proofs.memo.Memo.pairs_from.Goals as goal

pub returns-then-slot-pairs : goal.returns-then-slot-pairs
returns-then-slot-pairs c =
    let own = c.self.inside in
    let pairs = c.as_slice-pairs.result.now in
    let slot = c.slot_at-slot.result in
    let P : Numbered → Type 0 = λ pair. HasClass own.world.now own.classes.items pair.one pair.other pair.number in
    let S : List (Option Numbered) → Type 0 = AllAre P in
    let rest : S (take (length pairs - slot) (drop slot pairs)) =
    subst S (sym (take_rest pairs slot)) (pairs_behind P slot pairs (subst S (sym c.as_slice-pairs.ensures.value) c.self.invariant.pairs_are)) in
    let M : MemoValue → Type 0 = λ memo. ArePairs memo.world memo.classes (take (length pairs - slot) (drop slot pairs)) in
    subst M c.self.view_is rest
