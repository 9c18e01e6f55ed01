use Rattle.std.proofs.Common.{ℕ, List, Option, subst}
use Rattle.iam_columns.specs.Slots.{Keeps}
use Rattle.iam_classes.specs.Batches.{IsBatch}
use Rattle.iam_classes.specs.declared.batches.Batch.{Batch}
use Rattle.iam_classes.proofs.batches.Batches.kept.Goals as goal

pub returns-in-Some : goal.returns-in-Some
returns-in-Some c = λ world classes all.
    let it = c.in-Some.it in
    let K : List (Option Batch) → Type 0 = λ slots. Keeps slots c.slot_of-slot.result it in
    let C : ℕ → Type 0 = λ n. IsBatch world classes n it.number it.decided in
    let N : ℕ → Type 0 = λ m. IsBatch world classes c.args.class m it.decided in
    subst N c.if-it-number.true
    (subst C c.if-it-class.true (all c.slot_of-slot.result it (subst K c.as_slice.ensures.value c.in-Some.ensures.found)))
