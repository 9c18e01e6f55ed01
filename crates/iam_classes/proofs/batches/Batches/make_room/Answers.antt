use Rattle.iam_columns.proofs.SlotLemmas.{all_empty}
use Rattle.iam_classes.specs.Batches.{IsBatch}
use Rattle.iam_classes.specs.declared.batches.Batch.{Batch}
use Rattle.iam_classes.proofs.batches.Batches.make_room.Goals as goal

pub returns-then-is_empty : goal.returns-then-is_empty
returns-then-is_empty c = λ world classes all.
    all_empty (λ (b : Batch). IsBatch world classes b.class b.number b.decided) c.slots_or_none.result.items c.slots_or_none.ensures
