-- What a worker and a whole crew know of the bound. LOGIC 11.7.
use Rattle.std.specs.Prelude.{◌≡◌, ℕ, ◌≤◌, min, Option, unwrap_or, List, [], ◌∷◌}
use Rattle.iam_lanes.specs.Lanes.{LanesId, SeatView, no_cell}

-- the least of some cells, or no_cell where there is none
abbrev pub least_of : List ℕ → ℕ
least_of [] = no_cell
least_of (cell ∷ cells) = min cell (least_of cells)

-- the least cell that a seat offered or saw, or no_cell where there is none
unfoldable pub floor_of : SeatView → ℕ
floor_of seat = min (least_of seat.offers) (least_of seat.looks)

-- the bound that an answer stands for: none is above all cells
abbrev pub bound_of : Option ℕ → ℕ
bound_of low = unwrap_or low no_cell

-- the bound as one worker sees it: the lanes that keep it, the least cell that the worker offered or saw, and the cells that it offered
pub record BoundView : Type 0 where
  pub of : LanesId
  pub floor : ℕ
  pub offers : List ℕ

-- the bound as a seat shows it
abbrev pub view_of : SeatView → BoundView
view_of seat = record { of = seat.lanes; floor = floor_of seat; offers = seat.offers }

-- the same bound, with a floor that has not risen
abbrev pub Lowers : BoundView → BoundView → Type 0
Lowers before after = (after.of ≡ before.of) × (after.floor ≤ before.floor)
