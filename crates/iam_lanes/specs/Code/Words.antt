-- The words and views of a table as a state of lanes, and what a step on a word tells its seat.
use Rattle.std.specs.Prelude.{◌≡◌, ℕ, ◌+◌, ◌<◌, ◌≤◌, List, length, slice_index}
use Rattle.atomic_table.specs.Table.{State}
use Rattle.iam_lanes.specs.declared.view.LaneView.{LaneView}
use Rattle.iam_lanes.specs.Code.LaneRule.{LaneState, LaneRule, after_take, with_offer, with_look, empty_view}
use Rattle.iam_lanes.specs.Lanes.{times, times_taken}

-- word 0 is the bound, and word lane + 1 the count of a lane
abbrev pub state_of : List ℕ → List LaneView → LaneState
state_of words views = record { counts = λ lane. slice_index words (lane + 1); bound = slice_index words 0; views = views }

-- the rule of the table: a word for the bound and one for each lane, which with the views keep the lane rule
pub record IsRuled (lengths : List ℕ) (all : ℕ) (s : State (Unit {0}) LaneView) : Type 0 where
  pub wide : length s.words ≡ length lengths + 1
  pub rule : LaneRule lengths all (state_of s.words s.views)

-- the opener's view, in which all seats stand at first
abbrev pub opened : List ℕ → ℕ → LaneView
opened lengths all = empty_view lengths all all

-- a take that found the count n: the view is that after such a take, and had no number of the lane from n on
pub record FindsCount (lane n : ℕ) (v w : LaneView) : Type 0 where
  pub view : w ≡ after_take v.lengths lane n v
  pub fresh : (m : ℕ) → n ≤ m → times_taken lane m v.taken ≡ 0

-- what a take on the word of a lane tells its seat
abbrev pub tells_take : ℕ → LaneView → ℕ → LaneView → Type 0
tells_take word v n w = (lane : ℕ) → word ≡ lane + 1 → FindsCount lane n v w

-- what an offer tells its seat: the view gains it
abbrev pub tells_offer : ℕ → LaneView → LaneView → Type 0
tells_offer cell v w = w ≡ with_offer cell v

-- what a look that found the bound n tells its seat: the view gains it, and it is at or below all that the view had offered or seen
pub record tells_look (v : LaneView) (n : ℕ) (w : LaneView) : Type 0 where
  pub gained : w ≡ with_look n v
  pub least : (cell : ℕ) → 0 < times cell v.offers + times cell v.looks → n ≤ cell
