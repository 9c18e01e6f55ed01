-- Shared lanes as plain data: their state, what each event does to it, and the rule that holds between any two events.
use Rattle.std.specs.Prelude.{◌≡◌, ℕ, ◌+◌, ◌-◌, ◌<◌, ◌≤◌, ◌==◌, nat_lt, min, if◌then◌else◌, List, [], ◌∷◌, ◌++◌, slice_index, slice_set, sum_by}
use mathlib.Core.Option.{some}
use lib.ListN.{get_elem?}
use Rattle.iam_lanes.specs.declared.view.LaneView.{LaneView}
use Rattle.iam_lanes.specs.Lanes.{no_cell, times, times_taken}

-- the state of lanes: for each lane the count of its takes, the bound, and a view for each seat
pub record LaneState : Type 0 where
  pub counts : ℕ → ℕ
  pub bound : ℕ
  pub views : List LaneView

-- how often all views together took a number of a lane
abbrev pub taken_in : ℕ → ℕ → LaneState → ℕ
taken_in lane n s = sum_by (λ v. times_taken lane n v.taken) s.views

-- how many ends of a lane all views together saw
abbrev pub ends_in : ℕ → LaneState → ℕ
ends_in lane s = sum_by (λ v. times lane v.ends) s.views

-- how often all views together offered a cell
abbrev pub offers_in : ℕ → LaneState → ℕ
offers_in cell s = sum_by (λ v. times cell v.offers) s.views

-- how often all views together saw a cell in the bound
abbrev pub looks_in : ℕ → LaneState → ℕ
looks_in cell s = sum_by (λ v. times cell v.looks) s.views

-- how many seats stand in all views together
abbrev pub seats_in : LaneState → ℕ
seats_in s = sum_by (λ v. v.seats) s.views

-- a view that gains a number of a lane
abbrev pub with_number : ℕ → ℕ → LaneView → LaneView
with_number lane n v = record v { taken = v.taken ++ (lane, n) ∷ [] }

-- a view that gains an end of a lane
abbrev pub with_end : ℕ → LaneView → LaneView
with_end lane v = record v { ends = v.ends ++ lane ∷ [] }

-- a view that gains an offer
abbrev pub with_offer : ℕ → LaneView → LaneView
with_offer cell v = record v { offers = v.offers ++ cell ∷ [] }

-- a view that gains a look
abbrev pub with_look : ℕ → LaneView → LaneView
with_look cell v = record v { looks = v.looks ++ cell ∷ [] }

-- what a take that finds the count n of a lane leaves of a view: it gains the number n where n is below the lane's
-- length, and else an end
abbrev pub after_take : List ℕ → ℕ → ℕ → LaneView → LaneView
after_take lengths lane n v = if nat_lt n (slice_index lengths lane) then with_number lane n v else with_end lane v

-- A take of a lane by the seat `id`: its view v gains the count or an end, and the count rises by one either way. Who
-- takes the step owes that v is the view of `id` and has no end of the lane
abbrev pub take : List ℕ → ℕ → ℕ → LaneView → LaneState → LaneState
take lengths lane id v s = record {
  counts = λ k. if k == lane then s.counts lane + 1 else s.counts k;
  bound = s.bound;
  views = slice_set s.views id (after_take lengths lane (s.counts lane) v);
}

-- An offer of a cell by the seat `id`: the bound falls to the cell where that is less, and its view v gains the offer
abbrev pub offer : ℕ → ℕ → LaneView → LaneState → LaneState
offer cell id v s = record { counts = s.counts; bound = min s.bound cell; views = slice_set s.views id (with_offer cell v) }

-- A look by the seat `id`: its view v gains the bound
abbrev pub look : ℕ → LaneView → LaneState → LaneState
look id v s = record { counts = s.counts; bound = s.bound; views = slice_set s.views id (with_look s.bound v) }

-- each number below both length and count stands in one view, once, and no other number in any
pub record NumbersStandOnce (lengths : List ℕ) (s : LaneState) : Type 0 where
  pub once : (lane n : ℕ) → n < slice_index lengths lane → n < s.counts lane → taken_in lane n s ≡ 1
  pub past : (lane n : ℕ) → slice_index lengths lane ≤ n → taken_in lane n s ≡ 0
  pub later : (lane n : ℕ) → s.counts lane ≤ n → taken_in lane n s ≡ 0

-- of no lane more ends than seats stand in the view, and nothing in a view without a seat
pub record IsSeated (v : LaneView) : Type 0 where
  pub few : (lane : ℕ) → times lane v.ends ≤ v.seats
  pub idle : v.seats ≡ 0 → (v.taken ≡ []) × (v.ends ≡ []) × (v.offers ≡ []) × (v.looks ≡ [])

-- each view is seated, and the seats of all views are those that were opened
pub record SeatsAddUp (all : ℕ) (s : LaneState) : Type 0 where
  pub fair : (id : ℕ) (v : LaneView) → get_elem? s.views id ≡ some v → IsSeated v
  pub whole : seats_in s ≡ all

-- no offer is below the bound, the bound is an offer unless it says that there is none, and no offer says so. The bound
-- is a word of 64 bits, so at most `no_cell`
pub record BoundIsLeast (s : LaneState) : Type 0 where
  pub below : (cell : ℕ) → cell < s.bound → offers_in cell s ≡ 0
  pub offered : s.bound < no_cell → 0 < offers_in s.bound s
  pub proper : (cell : ℕ) → no_cell ≤ cell → offers_in cell s ≡ 0

-- The rule, of lanes with these lengths that were opened for `all` seats
pub record LaneRule (lengths : List ℕ) (all : ℕ) (s : LaneState) : Type 0 where
  -- 1. the ends of a lane are as many as its count is past its length, and none where it is not past it
  pub ends : (lane : ℕ) → ends_in lane s ≡ s.counts lane - slice_index lengths lane
  -- 2. each number below both length and count was taken once, and no other number
  pub numbers : NumbersStandOnce lengths s
  -- 3. few ends in each view, nothing in a view without a seat, and the seats add up. With 1 no count is past the
  --    lane's length and the seats together
  pub seats : SeatsAddUp all s
  -- 4. the bound is the least offer of all views
  pub bound : BoundIsLeast s
  -- 5. every look that gave a cell gave an offer of some view, and so none below the bound
  pub looks : (cell : ℕ) → cell < no_cell → 0 < looks_in cell s → 0 < offers_in cell s

-- two views as one: seats added, lists one after the other
abbrev pub joined_view : LaneView → LaneView → LaneView
joined_view v w = record v {
  seats = v.seats + w.seats;
  taken = v.taken ++ w.taken;
  ends = v.ends ++ w.ends;
  offers = v.offers ++ w.offers;
  looks = v.looks ++ w.looks;
}

-- an empty view in which so many seats stand
abbrev pub empty_view : List ℕ → ℕ → ℕ → LaneView
empty_view lengths all seats = record { lengths = lengths; all = all; seats = seats; taken = []; ends = []; offers = []; looks = [] }

-- a view after one of its seats was split off
abbrev pub without_seat : LaneView → LaneView
without_seat v = record v { seats = v.seats - 1 }

-- the view of a seat that was split off from a view
abbrev pub one_seat : LaneView → LaneView
one_seat v = empty_view v.lengths v.all 1

-- the view that is left once another has taken it in
abbrev pub unseated : LaneView
unseated = empty_view [] 0 0
