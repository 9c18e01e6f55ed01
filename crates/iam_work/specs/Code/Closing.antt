-- What the work knows when all seats have come back.
use Rattle.std.specs.Prelude.{◌≡◌, ℕ, zero, suc, ◌+◌, List, length}
use Rattle.iam_work.specs.declared.view.MarkView.{MarkView}
use Rattle.iam_work.specs.Work.{SeatView, marked_by, found_by, times}
use Rattle.iam_work.specs.Code.Words.{bit_of}

-- a view and the rest of some seats have together what all these seats have
pub record Gathers (seats rest : List SeatView) (v : MarkView) : Type 0 where
  pub marked : (grain : ℕ) → times grain v.marked + marked_by grain rest ≡ marked_by grain seats
  pub found : (grain : ℕ) → times grain v.found + found_by grain rest ≡ found_by grain seats
  pub count : v.seats + length rest ≡ length seats

-- how many bits of the first grains are set
abbrev pub set_below : ℕ → List ℕ → ℕ
set_below zero words = 0
set_below (suc grain) words = bit_of words grain + set_below grain words
