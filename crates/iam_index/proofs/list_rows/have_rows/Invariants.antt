use Rattle.std.proofs.Common.{ℕ, ◌<◌}
use Rattle.iam_columns.specs.Slots.{Keeps}
use Rattle.iam_index.proofs.list_rows.have_rows.Given as goal

abbrev pub invariant-loop-i : goal.invariant-loop-i
invariant-loop-i l = (i : ℕ) → i < l.i → (n : ℕ) × Keeps l.rows i n
