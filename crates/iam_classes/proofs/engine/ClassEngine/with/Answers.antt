use Rattle.std.proofs.Common.{ap, sym, ◌∙◌}
use Rattle.iam_columns.proofs.SlotLemmas.{all_empty}
use Rattle.iam_classes.specs.Batches.{IsBatch}
use Rattle.iam_classes.specs.Engine.{SourceValue}
use Rattle.iam_classes.specs.declared.batches.Batch.{Batch}
use Rattle.iam_classes.proofs.WordsLemmas.{no_words}
use Rattle.iam_classes.proofs.engine.ClassEngine.with.Goals as goal

pub invariant_of-result : goal.invariant_of-result
invariant_of-result c =
    let memo = c.in_ok-memo.memo in (
      ap (λ (s : SourceValue). s.world) c.new-2.ensures ∙ sym c.in_ok-memo.ensures.world,
      no_words memo.world memo.classes c.in_ok-new.field-0 c.in_ok-new.ensures,
      all_empty (λ (b : Batch). IsBatch memo.world memo.classes b.class b.number b.decided) c.new-4.result.slots.items c.new-4.ensures,
      c.new-5.ensures memo.world,
    )
