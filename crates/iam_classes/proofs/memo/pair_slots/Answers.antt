use Rattle.std.proofs.Common.{◌≡◌, List, [], Option, Some, arith, subst}
use Rattle.std.proofs.lemmas.Option.{slice_get_within}
use Rattle.std.specs.List.{slice_get}
use Rattle.iam_columns.specs.declared.numbered.Numbered.{Numbered}
use Rattle.iam_classes.proofs.memo.pair_slots.Goals as goal

pub returns-then-actions-lt2 : goal.returns-then-actions-lt2
returns-then-actions-lt2 c = λ i kept at.
    let P : List (Option Numbered) → Type 0 = λ slots. slice_get slots i ≡ Some (Some kept) in
    let within = slice_get_within [] i (Some kept) (subst P c.new.ensures.items at) in
    omega (arith, within)
