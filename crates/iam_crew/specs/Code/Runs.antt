-- Runs of tiles: how they are dealt out, found and halved, and what a turn leaves of one.
use Rattle.std.specs.Prelude.{◌≡◌, ℕ, ◌+◌, ◌*◌, ◌/◌, ◌%◌, ◌<◌, ◌≤◌, min, ◌⊎◌, Bool, true, false, if◌then◌else◌, [], ◌∷◌, ◌++◌, length}
use Rattle.iam_lanes.specs.Run.{Run}
use Rattle.iam_lanes.specs.Work.{SeatView, gains_mark, finds_mark, gains_pushed, gains_popped, gains_stolen}
use Rattle.iam_crew.specs.declared.worker.Worker.{Worker}
use Rattle.iam_crew.specs.Code.Order.{made_of}
use Rattle.iam_crew.specs.Code.Shares.{start_of}

-- the run that a worker begins with: it starts where that of the worker before ends, the first at the first tile; the last ends at
-- the last tile, and no two differ by more than one tile
pub record IsShare (tiles workers worker : ℕ) (run : Run) : Type 0 where
  pub start : run.first ≡ start_of tiles workers worker
  pub end : run.first + run.count ≡ start_of tiles workers (worker + 1)
  pub front : worker ≡ 0 → run.first ≡ 0
  pub back : worker + 1 ≡ workers → run.first + run.count ≡ tiles
  pub least : tiles / workers ≤ run.count
  pub most : run.count ≤ tiles / workers + 1

-- a seat that has the share of its worker, and nothing else: on its deque, or, where the push was refused or it is empty, in hand
abbrev pub IsDealt : ℕ → ℕ → SeatView → Run → Type 0
IsDealt tiles workers seat in_hand =
    (run : Run) × IsShare tiles workers seat.number run
    × (((seat.pushed ≡ run ∷ []) × (in_hand.count ≡ 0)) ⊎ ((seat.pushed ≡ []) × (in_hand ≡ run)))

-- a run that a seat took so many seats behind: with no step off its own deque
pub record IsFound (seats steps : ℕ) (before : SeatView) (run : Run) (after : SeatView) : Type 0 where
  pub own : steps ≡ 0 → after ≡ gains_popped run before
  pub other : 0 < steps → after ≡ gains_stolen ((before.number + steps) % seats) run before

-- a worker that found no run in as many turns as it may, one after the other, of those that were left to it
abbrev pub IsSpent : ℕ → ℕ → Type 0
IsSpent before after = after + min 65_536 before ≡ before

-- a run in two halves, one behind the other. The first has one tile less where their number is odd
pub record AreHalves (run kept rest : Run) : Type 0 where
  pub first : kept.first ≡ run.first
  pub next : rest.first ≡ run.first + kept.count
  pub all : kept.count + rest.count ≡ run.count
  pub half : kept.count ≡ run.count / 2

-- what is kept of a run: its first half, with the other pushed; or, where that was refused, all of it, and no run is halved any more
abbrev pub IsHalved : Bool → SeatView → Run → Bool → SeatView → Run → Type 0
IsHalved halved before run halves after kept =
    ((rest : Run) × AreHalves run kept rest × (after ≡ gains_pushed rest before) × (halves ≡ halved))
    ⊎ ((kept ≡ run) × (after ≡ before) × (halves ≡ false))

-- how many turns a seat shows: in each it marked a tile, found one marked, or pushed a run
abbrev pub shown_by : SeatView → ℕ
shown_by seat = length seat.marked + length seat.found + length seat.pushed

-- the turns of a worker with a run in hand: those that its seat shows, and the one whose push was refused
abbrev pub turns_of : SeatView → Bool → ℕ
turns_of seat halves = shown_by seat + (if halves then 0 else 1)

-- what is left to a worker that stopped: it had a run in hand in more than `2 * tiles` turns, or found none in 65,536 turns of the
-- 1,048,576 that were left to it
abbrev pub HasStopped : ℕ → SeatView → Bool → ℕ → Type 0
HasStopped tiles seat halves idle = (2 * tiles < turns_of seat halves) ⊎ (idle + 65_536 ≤ 1_048_576)

module _ {T O : Type 0} where
  -- a tile that now stands marked: the worker marked it and made its output, or found it marked and made nothing
  abbrev pub IsMarked : ℕ → Worker T O → Worker T O → Type 0
  IsMarked tile before after =
      ((output : O) × (after.seat ≡ gains_mark tile before.seat) × (after.made.items ≡ before.made.items ++ made_of tile output ∷ []))
      ⊎ ((after.seat ≡ finds_mark tile before.seat) × (after.made.items ≡ before.made.items))

  -- a worker that looks for runs, and halves them, as it did
  abbrev pub IsAsReady : Worker T O → Worker T O → Type 0
  IsAsReady before after = (after.idle ≡ before.idle) × (after.halves ≡ before.halves)

  -- what a turn leaves in hand: the first half, or the run behind its first tile, which stands marked
  abbrev pub IsTurn : Worker T O → Run → Worker T O → Run → Type 0
  IsTurn before run after left =
      (IsHalved before.halves before.seat run after.halves after.seat left × (before.halves ≡ true) × (after.made.items ≡ before.made.items) × (after.idle ≡ before.idle))
      ⊎ (IsMarked run.first before after × IsAsReady before after × (left.first ≡ run.first + 1) × (left.count + 1 ≡ run.count))

  -- a worker that may stop: it had a run in hand in `2 * tiles + 1` turns, or found none in 65,536 turns or in all that were left to it
  abbrev pub IsOver : ℕ → Worker T O → Worker T O → Type 0
  IsOver tiles before after =
      (turns_of after.seat after.halves ≡ turns_of before.seat before.halves + (2 * tiles + 1)) ⊎ ((after.idle + 65_536 ≤ before.idle) ⊎ (after.idle ≡ 0))
