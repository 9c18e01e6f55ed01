-- What the fields of lanes and of a seat stand for, and what is true of them.
use Rattle.std.specs.Prelude.{◌≡◌, ℕ, ◌+◌, ◌<◌, ◌≤◌, nat_lt, Bool, false, List, [], length, slice_index_or, sum}
use Rattle.atomic_table.specs.Seated.{TableId}
use Rattle.iam_lanes.specs.declared.view.LaneView.{LaneView}
use Rattle.iam_lanes.specs.Lanes.{SeatView, lanes_id, times}

-- the view as its seat shows it
abbrev pub seat_view : TableId → LaneView → SeatView
seat_view table v =
    record { lanes = lanes_id table v.lengths v.all; taken = v.taken; ends = v.ends; offers = v.offers; looks = v.looks }

-- the flags, one for each lane, tell which lanes the seat saw ended
abbrev pub IsFlagged : List Bool → List ℕ → Type 0
IsFlagged flags ends = (lane : ℕ) → lane < 64 → slice_index_or flags lane false ≡ nat_lt 0 (times lane ends)

-- a seat holds no slot, stands alone in its view, and flags the lanes that it saw ended
pub record IsSeatOf (slots : List (ℕ × Unit {0})) (v : LaneView) (flags : List Bool) : Type 0 where
  pub empty : slots ≡ []
  pub alone : v.seats ≡ 1
  pub flagged : IsFlagged flags v.ends

-- a table of lanes with these lengths: a word for the bound and one for each lane, no slots, and the limits kept
pub record IsLaid (table : TableId) (lengths : List ℕ) (seats : ℕ) : Type 0 where
  pub wide : table.words ≡ length lengths + 1
  pub plain : table.slots ≡ 0
  pub some_seat : 0 < seats
  pub few_seats : seats ≤ 64
  pub few_lanes : length lengths ≤ 64
  pub few_numbers : sum lengths ≤ 4096
