-- The matrix of a world: the verdict of each cell, in the order of the cells' numbers. It names no cut and no worker.
-- LOGIC 11.6 and 11.8.
use Rattle.std.specs.Prelude.{◌≡◌, ◌≢◌, ℕ, ◌<◌, List, Option, Some, None, length}
use Rattle.iam_decision.specs.declared.verdict.Decision.{Decision}
use Rattle.iam_decision.specs.declared.verdict.Decision.TheVariants.{Allowed}
use Rattle.iam_layers.specs.Cell.{IsDecisionOf}
use Rattle.iam_world.specs.World.{WorldValue, world_cells}
pub use Rattle.iam_row.specs.Report.{AreEntriesFrom}

-- one entry for each cell, in order: its verdict, or its decision alone
pub record IsMatrix {X : Type 0} (Is : WorldValue → ℕ → X → Type 0) (world : WorldValue) (entries : List X) : Type 0 where
  pub count : length entries ≡ world_cells world
  pub each : AreEntriesFrom (Is world) 0 entries

-- the cell is not allowed
pub record IsNotAllowed (world : WorldValue) (cell : ℕ) : Type 0 where
  pub decision : Decision
  pub is : IsDecisionOf world cell decision
  pub not_allowed : decision ≢ Allowed

-- the least cell that is allowed, or nothing where none is
abbrev pub IsFirstAllowed : WorldValue → Option ℕ → Type 0
IsFirstAllowed world None = (cell : ℕ) → cell < world_cells world → IsNotAllowed world cell
IsFirstAllowed world (Some cell) =
    (cell < world_cells world) × IsDecisionOf world cell Allowed × ((lower : ℕ) → lower < cell → IsNotAllowed world lower)
