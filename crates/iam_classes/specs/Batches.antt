-- What is decided on the requests of classes for up to 64 actions at once. LOGIC 1.1.
use Rattle.std.specs.Prelude.{◌≡◌, ◌≤◌, ◌+◌, ◌*◌, ℕ, All, List, Some, length}
use Rattle.std.specs.List.{slice_get}
use Rattle.iam_classes.specs.declared.lanes.Decided.{Decided}
use Rattle.iam_world.specs.World.{WorldValue}
use Rattle.iam_columns.specs.Slots.{AllAre}
use Rattle.iam_classes.specs.Span.{IsBatchOf, count_of}
use Rattle.iam_classes.specs.declared.memo.Class.{Class}
use Rattle.iam_classes.specs.declared.batches.Batches.{Batches}

-- this is decided on the requests of the class for the actions of the batch of this number
abbrev pub IsBatch : WorldValue → List Class → ℕ → ℕ → Decided → Type 0
IsBatch world classes n number decided = (class : Class) × (slice_get classes n ≡ Some class) × IsBatchOf world class.shared number decided

-- the rows of the class tell of each of its statements whether it acts on the actions of the batch of this number
abbrev pub RowsTell : WorldValue → Class → ℕ → Type 0
RowsTell world class number =
    All (λ row. 64 * number + count_of world number ≤ length row.now) class.rows.items × (length class.rows.items ≡ length class.shared.living)

-- each batch that is kept is one of its class
abbrev pub AreBatches : WorldValue → List Class → Batches → Type 0
AreBatches world classes batches = AllAre (λ batch. IsBatch world classes batch.class batch.number batch.decided) batches.slots.items
