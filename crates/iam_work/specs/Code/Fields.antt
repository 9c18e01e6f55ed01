-- What the fields of work and of a seat stand for, and what is true of them.
use Rattle.std.specs.Prelude.{◌≡◌, ℕ, ◌<◌, ◌≤◌, false, List, [], map, All, None}
use Rattle.std.proofs.Common.{Global}
use mathlib.Core.Option.{some}
use lib.ListN.{get_elem?}
use Rattle.atomic_table.specs.Seated.{TableId}
use Rattle.crossbeam_deque.specs.Handles.{Pass, view, worker_deque, worker_flavor, worker_view}
use Rattle.crossbeam_deque.specs.declared.handles.Worker.{Worker}
use Rattle.iam_work.specs.declared.run.Run.{Run}
use Rattle.iam_work.specs.declared.view.MarkView.{MarkView}
use Rattle.iam_work.specs.declared.view.DequeView.{DequeView}
use Rattle.iam_work.specs.Code.RunRule.{idle_view}
use Rattle.iam_work.specs.Work.{SeatView, work_id}
use Rattle.iam_work.specs.Code.Words.{words_for}

-- a pass of a deque of runs
abbrev pub RunPass : Type 0
RunPass = Pass Run DequeView Global

-- which deque a pass is of
abbrev pub pass_deque : RunPass → (ℕ × ℕ) × Global
pass_deque p = (p.rows, p.heap)

-- the runs that a pass took
abbrev pub pass_taken : RunPass → List Run
pass_taken p = (view p).taken

-- the views as their seat shows them
abbrev pub seat_view : TableId → MarkView → ℕ → DequeView → List RunPass → SeatView
seat_view marks v number own passes = record {
  work = work_id marks (map pass_deque passes) v.grains v.all;
  number = number;
  marked = v.marked;
  found = v.found;
  pushed = own.pushed;
  popped = own.taken;
  stolen = map pass_taken passes;
}

-- a pass that carries nothing and knows the grains
abbrev pub IsReady : ℕ → RunPass → Type 0
IsReady grains p = (p.me.hand ≡ None) × (p.me.spare ≡ None) × ((view p).grains ≡ grains)

-- a pass that has taken nothing yet
abbrev pub IsNew : ℕ → RunPass → Type 0
IsNew grains p = (p.me.hand ≡ None) × (p.me.spare ≡ None) × (view p ≡ idle_view grains false)

-- new passes of these deques, one each
abbrev pub IsBundle : ℕ → List ((ℕ × ℕ) × Global) → List RunPass → Type 0
IsBundle grains deques passes = (map pass_deque passes ≡ deques) × All (IsNew grains) passes

module _ {P : Type 0} where
  -- the owner of a deque that is popped at its front, which knows the grains and has pushed and popped nothing
  pub record IsUnused (grains : ℕ) (owner : Worker Run Global DequeView P) : Type 0 where
    pub fifo : worker_flavor owner ≡ 0
    pub knows : (worker_view owner).grains ≡ grains
    pub pushed : (worker_view owner).pushed ≡ []
    pub taken : (worker_view owner).taken ≡ []

  -- a seat holds no slot, stands alone in its view, owns the deque of its number, and knows the grains in each deque
  pub record IsSeatOf (slots : List (ℕ × Unit {0})) (v : MarkView) (number : ℕ) (owner : Worker Run Global DequeView P) (passes : List RunPass) : Type 0 where
    pub empty : slots ≡ []
    pub alone : v.seats ≡ 1
    pub fifo : worker_flavor owner ≡ 0
    pub knows : (worker_view owner).grains ≡ v.grains
    pub owns : get_elem? (map pass_deque passes) number ≡ some (worker_deque owner)
    pub ready : All (IsReady v.grains) passes

-- a table of marks for so many grains: its words, no slots, and the limits kept
pub record IsLaid (table : TableId) (grains seats : ℕ) : Type 0 where
  pub wide : table.words ≡ words_for grains
  pub plain : table.slots ≡ 0
  pub some_seat : 0 < seats
  pub few_seats : seats ≤ 64
  pub few_grains : grains ≤ 4096
