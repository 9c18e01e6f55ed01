use Rattle.iam_columns.proofs.SlotLemmas.{all_gained}
use Rattle.iam_classes.specs.Batches.{IsBatch}
use Rattle.iam_classes.specs.declared.batches.Batch.{Batch}
use Rattle.iam_classes.proofs.batches.Batches.find.Goals as goal

pub returns-clause-right : goal.returns-clause-right
returns-clause-right c =
    let memo = c.args.memo.now in
    let batch : Batch = record { class = c.args.class; number = c.args.number; decided = c.in_ok-decided.decided } in
    let P : Batch → Type 0 = λ b. IsBatch memo.world memo.classes b.class b.number b.decided in
    all_gained P c.make_room.new.self.slots.items c.keep.new.slots.items batch c.keep.ensures.gains
    (c.make_room.ensures memo.world memo.classes c.requires.right) c.in_ok-decided.ensures.some
