-- Lanes and their seats as callers see them, and what a caller knows once the lanes are closed. LOGIC 11.7.
use Rattle.std.specs.Prelude.{ℕ, zero, suc, ◌+◌, ◌-◌, ◌<◌, ◌⊎◌, ◌==◌, ◌&&◌, nat_lt, max, if◌then◌else◌, List, [], ◌∷◌, ◌++◌, length, slice_index, sum, sum_by, count_by}
use Rattle.atomic_table.specs.Seated.{TableId}
pub use Rattle.iam_work.specs.Work.{times}

-- the bound while no cell was offered
abbrev pub no_cell : ℕ
no_cell = 18446744073709551615

-- how often the number n of a lane stands in a list of numbers with their lanes
abbrev pub times_taken : ℕ → ℕ → List (ℕ × ℕ) → ℕ
times_taken lane n pairs = count_by (λ p. (lane == p.0) && (n == p.1)) pairs

-- which lanes they are, with the length of each, and the number of their seats
pub record LanesId : Type 0 where
  pub table : TableId
  pub lengths : List ℕ
  pub seats : ℕ

-- lanes by their parts
abbrev pub lanes_id : TableId → List ℕ → ℕ → LanesId
lanes_id table lengths seats = record { table = table; lengths = lengths; seats = seats }

-- a seat of these lanes: the numbers that it took, each with its lane, the lanes that it saw ended, the cells that it offered and saw
pub record SeatView : Type 0 where
  pub lanes : LanesId
  pub taken : List (ℕ × ℕ)
  pub ends : List ℕ
  pub offers : List ℕ
  pub looks : List ℕ

-- a seat that has done nothing yet
abbrev pub fresh : LanesId → SeatView
fresh lanes = record { lanes = lanes; taken = []; ends = []; offers = []; looks = [] }

-- more seats, lanes or numbers in all than are allowed
abbrev pub IsTooMany : List ℕ → ℕ → Type 0
IsTooMany lengths seats = (64 < seats) ⊎ ((64 < length lengths) ⊎ (4096 < sum lengths))

-- a seat that gains a number of a lane
abbrev pub gains_number : ℕ → ℕ → SeatView → SeatView
gains_number lane n s = record s { taken = s.taken ++ (lane, n) ∷ [] }

-- a seat that has seen a lane ended: an end is gained once
abbrev pub sees_end : ℕ → SeatView → SeatView
sees_end lane s = if times lane s.ends == 0 then record s { ends = s.ends ++ lane ∷ [] } else s

-- a seat that gains an offer
abbrev pub gains_offer : ℕ → SeatView → SeatView
gains_offer cell s = record s { offers = s.offers ++ cell ∷ [] }

-- a seat that gains a look
abbrev pub gains_look : ℕ → SeatView → SeatView
gains_look cell s = record s { looks = s.looks ++ cell ∷ [] }

-- one more than the greatest number of a lane in a list, or 0
abbrev pub next_number : ℕ → List (ℕ × ℕ) → ℕ
next_number lane [] = 0
next_number lane (p ∷ ps) = if lane == p.0 then max (p.1 + 1) (next_number lane ps) else next_number lane ps

-- how many numbers of a lane may still come to a seat, whose numbers of a lane rise
abbrev pub left_in : ℕ → SeatView → ℕ
left_in lane s = slice_index s.lanes.lengths lane - next_number lane s.taken

-- how often these seats together took a number of a lane
abbrev pub taken_by : ℕ → ℕ → List SeatView → ℕ
taken_by lane n seats = sum_by (λ s. times_taken lane n s.taken) seats

-- how often these seats together saw a lane ended
abbrev pub ends_by : ℕ → List SeatView → ℕ
ends_by lane seats = sum_by (λ s. times lane s.ends) seats

-- how often these seats together offered a cell
abbrev pub offers_by : ℕ → List SeatView → ℕ
offers_by cell seats = sum_by (λ s. times cell s.offers) seats

-- how often these seats together saw a cell
abbrev pub looks_by : ℕ → List SeatView → ℕ
looks_by cell seats = sum_by (λ s. times cell s.looks) seats

-- how many of the first lanes some of these seats saw ended
abbrev pub ended_below : ℕ → List SeatView → ℕ
ended_below zero seats = 0
ended_below (suc lane) seats = (if nat_lt 0 (ends_by lane seats) then 1 else 0) + ended_below lane seats
