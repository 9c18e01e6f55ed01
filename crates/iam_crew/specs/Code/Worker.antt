-- What a worker begins with, keeps from turn to turn, and brings back.
use Rattle.std.specs.Prelude.{◌≡◌, ℕ, ◌+◌, ◌<◌, ◌≤◌, All, [], List, map, Vec}
use Rattle.std.specs.Global.{Global}
use Rattle.iam_lanes.specs.Lanes.{LanesId, SeatView as LaneView}
use Rattle.iam_lanes.specs.Work.{WorkId, SeatView as WorkView}
use Rattle.iam_crew.specs.declared.worker.Made.{Made}
use Rattle.iam_crew.specs.declared.worker.Done.{Done}
use Rattle.iam_crew.specs.declared.worker.Worker.{Worker}
use Rattle.iam_crew.specs.declared.seats.Seats.{Seats}
use Rattle.iam_crew.specs.Bound.{BoundView, view_of}
use Rattle.iam_crew.specs.Code.Job.{JobView}
use Rattle.iam_crew.specs.Code.Runs.{IsDealt, HasStopped}

-- a seat of these lanes that has offered nothing
abbrev pub IsFresh : LanesId → LaneView → Type 0
IsFresh lanes seat = (seat.lanes ≡ lanes) × (seat.offers ≡ [])

-- a seat of this work, with a deque of it
abbrev pub IsOwn : WorkId → WorkView → Type 0
IsOwn work seat = (seat.work ≡ work) × (seat.number < work.seats)

-- such a seat that has marked and pushed nothing
abbrev pub IsUntouched : WorkId → WorkView → Type 0
IsUntouched work seat = IsOwn work seat × (seat.marked ≡ []) × (seat.pushed ≡ [])

-- a worker that begins: its seats have done nothing but take its share
unfoldable pub IsReady : LanesId → WorkId → Seats → Type 0
IsReady lanes work seats =
    IsFresh lanes seats.bound × IsOwn work seats.work × (seats.work.marked ≡ [])
    × IsDealt work.grains work.seats seats.work seats.in_hand × (seats.in_hand.first + seats.in_hand.count ≤ work.grains)

-- outputs of the tiles that a seat marked, one behind the other
abbrev pub AreOfMarked : {O : Type 0} → WorkView → List (Made O) → Type 0
AreOfMarked seat made = map (λ m. m.tile) made ≡ seat.marked

-- outputs of tiles, each given at every bound up to the floor, of a worker that offered what may be offered
pub record AreGiven {O : Type 0} (tiles : ℕ) (lanes : LanesId) (offers : ℕ → Type 0) (gives : ℕ → O → ℕ → Type 0) (bound : BoundView) (made : List (Made O)) : Type 0 where
  pub same : bound.of ≡ lanes
  pub within : All (λ m. m.tile < tiles) made
  pub given : All (λ m. (low : ℕ) → low ≤ bound.floor → gives m.tile m.output low) made
  pub offered : All offers bound.offers

-- a worker at a job, with a seat of its work and tools that fit its crew, and what it made so far
pub record IsAtWork {C T O : Type 0} (fits : C → T → Type 0) (offers : C → ℕ → Type 0) (gives : C → ℕ → O → ℕ → Type 0) (job : JobView C) (worker : Worker T O) : Type 0 where
  pub seat : worker.seat.work ≡ job.work
  pub number : worker.seat.number < job.work.seats
  pub tools : fits job.crew worker.tools
  pub marked : AreOfMarked worker.seat worker.made.items
  pub made : AreGiven job.work.grains job.lanes (offers job.crew) (gives job.crew) worker.bound worker.made.items

-- what a worker brings back: all that it made, an output of each tile that it marked; and it stopped because it might
pub record IsDone {O : Type 0} (tiles : ℕ) (lanes : LanesId) (offers : ℕ → Type 0) (gives : ℕ → O → ℕ → Type 0) (done : Done O) : Type 0 where
  pub given : AreGiven tiles lanes offers gives (view_of done.seat) done.made.items
  pub marked : AreOfMarked done.work done.made.items
  pub stopped : HasStopped tiles done.work done.halves done.idle

-- what all workers bring back
abbrev pub AreDone : {C O : Type 0} → (C → ℕ → Type 0) → (C → ℕ → O → ℕ → Type 0) → C → LanesId → ℕ → Vec (Done O) Global → Type 0
AreDone offers gives crew lanes tiles all = All (IsDone tiles lanes (offers crew) (gives crew)) all.items
