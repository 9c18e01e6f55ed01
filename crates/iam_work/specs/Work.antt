-- Work and its seats as callers see them, and what a caller knows once the work is closed. LOGIC 11.7.
use Rattle.std.specs.Prelude.{ℕ, zero, suc, ◌+◌, ◌<◌, ◌≤◌, ◌⊎◌, ◌==◌, nat_lt, if◌then◌else◌, ⊤, List, [], ◌∷◌, ◌++◌, slice_set, slice_index_or, replicate, sum_by, count_by}
use Rattle.std.proofs.Common.{Global}
use Rattle.atomic_table.specs.Seated.{TableId}
use Rattle.iam_work.specs.declared.run.Run.{Run}
use Rattle.iam_work.specs.declared.stolen.Stolen.{Stolen}
use Rattle.iam_work.specs.declared.stolen.Stolen.TheVariants.{Took, Empty, Lost}

-- how often x stands in a list
abbrev pub times : ℕ → List ℕ → ℕ
times x xs = count_by (λ y. x == y) xs

-- a run that is not empty, and lies within so many grains
abbrev pub IsWithin : ℕ → Run → Type 0
IsWithin grains run = (0 < run.count) × (run.first + run.count ≤ grains)

-- which work it is: its marks, the deque of each seat, how many grains and how many seats
pub record WorkId : Type 0 where
  pub marks : TableId
  pub deques : List ((ℕ × ℕ) × Global)
  pub grains : ℕ
  pub seats : ℕ

-- work by its parts
abbrev pub work_id : TableId → List ((ℕ × ℕ) × Global) → ℕ → ℕ → WorkId
work_id marks deques grains seats = record { marks = marks; deques = deques; grains = grains; seats = seats }

-- a seat of this work: its number, the grains that it marked before any other and those that it found marked, the runs that it
-- pushed onto its own deque and popped from it, and for each deque the runs that it stole there
pub record SeatView : Type 0 where
  pub work : WorkId
  pub number : ℕ
  pub marked : List ℕ
  pub found : List ℕ
  pub pushed : List Run
  pub popped : List Run
  pub stolen : List (List Run)

-- a seat that has done nothing yet
abbrev pub fresh : WorkId → ℕ → SeatView
fresh work number =
    record { work = work; number = number; marked = []; found = []; pushed = []; popped = []; stolen = replicate work.seats [] }

-- more seats or grains than are allowed
abbrev pub IsTooMany : ℕ → ℕ → Type 0
IsTooMany grains seats = (64 < seats) ⊎ (4096 < grains)

-- a seat that gains a grain, and one that found it marked
abbrev pub gains_mark : ℕ → SeatView → SeatView
gains_mark grain s = record s { marked = s.marked ++ grain ∷ [] }

abbrev pub finds_mark : ℕ → SeatView → SeatView
finds_mark grain s = record s { found = s.found ++ grain ∷ [] }

-- a seat that pushed a run, popped it, and stole it from a deque
abbrev pub gains_pushed : Run → SeatView → SeatView
gains_pushed run s = record s { pushed = s.pushed ++ run ∷ [] }

abbrev pub gains_popped : Run → SeatView → SeatView
gains_popped run s = record s { popped = s.popped ++ run ∷ [] }

abbrev pub gains_stolen : ℕ → Run → SeatView → SeatView
gains_stolen from run s = record s { stolen = slice_set s.stolen from (slice_index_or s.stolen from [] ++ run ∷ []) }

-- how often a grain stands in these seats' views together
abbrev pub marked_by : ℕ → List SeatView → ℕ
marked_by grain seats = sum_by (λ s. times grain s.marked) seats

-- how often these seats together found a grain marked
abbrev pub found_by : ℕ → List SeatView → ℕ
found_by grain seats = sum_by (λ s. times grain s.found) seats

-- how many of the first grains stand in these seats' views
abbrev pub marked_below : ℕ → List SeatView → ℕ
marked_below zero seats = 0
marked_below (suc grain) seats = (if nat_lt 0 (marked_by grain seats) then 1 else 0) + marked_below grain seats

-- what holds where a theft took a run, and where it took none
abbrev pub IfTook : Stolen → (Run → Type 0) → Type 0
IfTook (Took run) P = P run
IfTook Empty P = ⊤
IfTook Lost P = ⊤

abbrev pub IfNothing : Stolen → Type 0 → Type 0
IfNothing (Took run) P = ⊤
IfNothing Empty P = P
IfNothing Lost P = P
