-- Outputs in slots, one for each tile.
use Rattle.std.specs.Prelude.{◌≡◌, ℕ, ◌≤◌, ◌⊎◌, All, Option, Some, Contains, List, slice_get}
use Rattle.iam_lanes.specs.Lanes.{SeatView}
use Rattle.iam_crew.specs.declared.worker.Made.{Made}
use Rattle.iam_crew.specs.Bound.{floor_of}

-- the output of a tile
abbrev pub made_of : {O : Type 0} → ℕ → O → Made O
made_of tile output = record { tile = tile; output = output }

-- the slot of a tile has an output
abbrev pub IsFilled : {O : Type 0} → List (Option O) → ℕ → Type 0
IsFilled {O = O} slots tile = (output : O) × (slice_get slots tile ≡ Some (Some output))

-- each output in a slot was made of the slot's tile, and each tile of which an output was made has one in its slot
pub record IsPlaced {O : Type 0} (slots : List (Option O)) (made : List (Made O)) : Type 0 where
  pub from : (tile : ℕ) (output : O) → slice_get slots tile ≡ Some (Some output) → Contains made (made_of tile output)
  pub filled : All (λ m. IsFilled slots m.tile) made

-- what stands in slots stands among the outputs
abbrev pub IsKept : {O : Type 0} → List (Option O) → List O → Type 0
IsKept {O = O} slots outputs = (tile : ℕ) (output : O) → slice_get slots tile ≡ Some (Some output) → slice_get outputs tile ≡ Some output

-- each output stood in the slot of its tile, or is given of the tile at the floor; and each that stood in a slot is kept
pub record IsCompleted {O : Type 0} (gives : ℕ → O → ℕ → Type 0) (floor : ℕ) (slots : List (Option O)) (outputs : List O) : Type 0 where
  pub each : (tile : ℕ) (output : O) → slice_get outputs tile ≡ Some output → (slice_get slots tile ≡ Some (Some output)) ⊎ gives tile output floor
  pub kept : IsKept slots outputs

-- of each tile that was made the output is one that was made of it
abbrev pub AreBrought : {O : Type 0} → List (Made O) → List O → Type 0
AreBrought {O = O} made outputs =
    All (λ m. (output : O) × (slice_get outputs m.tile ≡ Some output) × Contains made (made_of m.tile output)) made

-- each output in a slot is given of the slot's tile at every bound that is at or below the floors of all seats
abbrev pub AreGivenBelow : {O : Type 0} → (ℕ → O → ℕ → Type 0) → List SeatView → List (Option O) → Type 0
AreGivenBelow {O = O} gives seats slots =
    (bound : ℕ) → All (λ s. bound ≤ floor_of s) seats → (tile : ℕ) (output : O) → slice_get slots tile ≡ Some (Some output) → gives tile output bound
