-- The marks of grains as plain data: their state, what a mark does to it, and the rule that holds between any two marks.
use Rattle.std.specs.Prelude.{◌≡◌, ℕ, ◌+◌, ◌-◌, ◌<◌, ◌≤◌, ◌==◌, if◌then◌else◌, List, [], ◌∷◌, ◌++◌, slice_set, sum_by}
use mathlib.Core.Option.{some}
use lib.ListN.{get_elem?}
use Rattle.iam_work.specs.declared.view.MarkView.{MarkView}
use Rattle.iam_work.specs.Work.{times}

-- the state of marks: the bit of each grain, 1 where it is set, and a view for each seat
pub record MarkState : Type 0 where
  pub bits : ℕ → ℕ
  pub views : List MarkView

-- how often a grain stands in all views together
abbrev pub marked_in : ℕ → MarkState → ℕ
marked_in grain s = sum_by (λ v. times grain v.marked) s.views

-- how often all views together found a grain marked
abbrev pub found_in : ℕ → MarkState → ℕ
found_in grain s = sum_by (λ v. times grain v.found) s.views

-- how many seats stand in all views together
abbrev pub seats_in : MarkState → ℕ
seats_in s = sum_by (λ v. v.seats) s.views

-- a view that gains a grain
abbrev pub with_mark : ℕ → MarkView → MarkView
with_mark grain v = record v { marked = v.marked ++ grain ∷ [] }

-- a view that gains a grain among those that it found marked
abbrev pub with_found : ℕ → MarkView → MarkView
with_found grain v = record v { found = v.found ++ grain ∷ [] }

-- what a mark of a grain with this bit leaves of a view: it gains the grain where the bit is not set
abbrev pub after_mark : ℕ → ℕ → MarkView → MarkView
after_mark grain bit v = if bit == 0 then with_mark grain v else with_found grain v

-- A mark of a grain by the seat `id`, whose view is v: the bit is set
abbrev pub mark : ℕ → ℕ → MarkView → MarkState → MarkState
mark grain id v s = record {
  bits = λ g. if g == grain then 1 else s.bits g;
  views = slice_set s.views id (after_mark grain (s.bits grain) v);
}

-- a view without a seat has nothing
pub record IsSeated (v : MarkView) : Type 0 where
  pub idle : v.seats ≡ 0 → (v.marked ≡ []) × (v.found ≡ [])

-- each view is seated, and the seats of all views are those that were opened
pub record SeatsAddUp (all : ℕ) (s : MarkState) : Type 0 where
  pub fair : (id : ℕ) (v : MarkView) → get_elem? s.views id ≡ some v → IsSeated v
  pub whole : seats_in s ≡ all

-- The rule, of so many grains that were opened for `all` seats
pub record MarkRule (grains all : ℕ) (s : MarkState) : Type 0 where
  -- 1. a bit is set exactly where its grain stands in one view, and then in one alone, once
  pub bit : (grain : ℕ) → s.bits grain ≤ 1
  pub marks : (grain : ℕ) → marked_in grain s ≡ s.bits grain
  -- 2. each grain that a view found marked stands in some view
  pub found : (grain : ℕ) → 0 < found_in grain s → 0 < marked_in grain s
  -- 3. no bit is set past the last grain
  pub inside : (grain : ℕ) → grains ≤ grain → s.bits grain ≡ 0
  -- 4. nothing in a view without a seat, and the seats add up
  pub seats : SeatsAddUp all s

-- two views as one: seats added, lists one after the other
abbrev pub joined_view : MarkView → MarkView → MarkView
joined_view v w = record v { seats = v.seats + w.seats; marked = v.marked ++ w.marked; found = v.found ++ w.found }

-- an empty view in which so many seats stand
abbrev pub empty_view : ℕ → ℕ → ℕ → MarkView
empty_view grains all seats = record { grains = grains; all = all; seats = seats; marked = []; found = [] }

-- a view after one of its seats was split off
abbrev pub without_seat : MarkView → MarkView
without_seat v = record v { seats = v.seats - 1 }

-- the view of a seat that was split off from a view
abbrev pub one_seat : MarkView → MarkView
one_seat v = empty_view v.grains v.all 1

-- the view that is left once another has taken it in
abbrev pub unseated : MarkView
unseated = empty_view 0 0 0
