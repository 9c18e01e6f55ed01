-- What the lanes know when all seats have come back.
use Rattle.std.specs.Prelude.{◌≡◌, ℕ, zero, suc, ◌+◌, nat_lt, if◌then◌else◌, List, length, slice_index}
use Rattle.iam_lanes.specs.declared.view.LaneView.{LaneView}
use Rattle.iam_lanes.specs.Lanes.{SeatView, taken_by, ends_by, offers_by, looks_by, times, times_taken}

-- a view and the rest of some seats have together what all these seats have
pub record Gathers (seats rest : List SeatView) (v : LaneView) : Type 0 where
  pub numbers : (lane n : ℕ) → times_taken lane n v.taken + taken_by lane n rest ≡ taken_by lane n seats
  pub ends : (lane : ℕ) → times lane v.ends + ends_by lane rest ≡ ends_by lane seats
  pub offers : (cell : ℕ) → times cell v.offers + offers_by cell rest ≡ offers_by cell seats
  pub looks : (cell : ℕ) → times cell v.looks + looks_by cell rest ≡ looks_by cell seats
  pub count : v.seats + length rest ≡ length seats

-- how many of the first lanes have a count past their length
abbrev pub passed_below : ℕ → List ℕ → List ℕ → ℕ
passed_below zero words lengths = 0
passed_below (suc lane) words lengths =
    (if nat_lt (slice_index lengths lane) (slice_index words (lane + 1)) then 1 else 0) + passed_below lane words lengths
