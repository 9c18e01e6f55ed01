-- What a seat's floor is, and what closing says of it.
use Rattle.std.proofs.Common.{◌≡◌, ℕ, ◌+◌, ◌<◌, ◌≤◌, min, cond, eqb, Option, None, Some, List, [], ◌∷◌, ◌++◌, get_or, All, IfSome, IfNone, refl, sym, ap, subst, ⊎_elim, arith}
use Rattle.std.proofs.lemmas.Bool.{cases_eq, cases_lt, eq-eqb, ne_eqb}
use Rattle.std.proofs.lemmas.List.Elements.{All-head, All-tail}
use Rattle.std.proofs.lemmas.List.Sums.{sum_by-cons, get_or-le-sum_by}
use Rattle.iam_lanes.specs.Lanes.{SeatView, gains_offer, gains_look, offers_by, looks_by, no_cell, times}
use Rattle.iam_crew.specs.Bound.{least_of, floor_of, bound_of}

-- the least of some cells and one more
pub least_of_push : (cells : List ℕ) (cell : ℕ) → cell ≤ no_cell → least_of (cells ++ cell ∷ []) ≡ min cell (least_of cells)
least_of_push [] cell small = refl
least_of_push (x ∷ xs) cell small = let e = least_of_push xs cell small in omega arith

pub floor_look : (cell : ℕ) (s : SeatView) → cell ≤ no_cell → floor_of (gains_look cell s) ≡ min cell (floor_of s)
unfolding floor_of
floor_look cell s small = let e = least_of_push s.looks cell small in omega arith

pub floor_offer : (cell : ℕ) (s : SeatView) → cell ≤ no_cell → floor_of (gains_offer cell s) ≡ min cell (floor_of s)
unfolding floor_of
floor_offer cell s small = let e = least_of_push s.offers cell small in omega arith

-- how often a cell stands in a list with one more in front
times_head : (cell : ℕ) (cells : List ℕ) → 0 < times cell (cell ∷ cells)
times_head cell cells = let e = ap {B = ℕ} (λ b. cond b 1 0) (eq-eqb cell cell refl) in omega (arith, sum_by-cons (λ (x : ℕ). cond (eqb cell x) 1 0) cell cells, e)

times_tail : (cell other : ℕ) (cells : List ℕ) → times cell cells ≤ times cell (other ∷ cells)
times_tail cell other cells = omega (arith, sum_by-cons (λ (x : ℕ). cond (eqb cell x) 1 0) other cells)

-- the least of some cells is one of them
least_found : (cells : List ℕ) → least_of cells < no_cell → 0 < times (least_of cells) cells
least_found [] below = absurd (omega arith)
least_found (x ∷ xs) below = ⊎_elim
    (λ less. let e : min x (least_of xs) ≡ least_of xs = omega arith in
    let P : ℕ → Type 0 = λ k. 0 < times k (x ∷ xs) in
    subst P (sym e) (let f = least_found xs (omega arith) in let t = times_tail (least_of xs) x xs in omega arith))
    (λ least. let e : min x (least_of xs) ≡ x = omega arith in
    let P : ℕ → Type 0 = λ k. 0 < times k (x ∷ xs) in
    subst P (sym e) (times_head x xs))
    (cases_lt (least_of xs) x)

-- a seat offered or saw its floor, unless it knows of no cell
pub floor_found : (s : SeatView) → floor_of s < no_cell → 0 < times (floor_of s) s.offers + times (floor_of s) s.looks
unfolding floor_of
floor_found s below =
    let P : ℕ → Type 0 = λ k. 0 < times k s.offers + times k s.looks in
    ⊎_elim
    (λ less. let e : floor_of s ≡ least_of s.offers = omega arith in
    subst P (sym e) (let f = least_found s.offers (omega arith) in omega arith))
    (λ least. let e : floor_of s ≡ least_of s.looks = omega arith in
    subst P (sym e) (let f = least_found s.looks (omega arith) in omega arith))
    (cases_lt (least_of s.offers) (least_of s.looks))

-- the bound is at or below each cell that was offered
low_least : (low : Option ℕ) (seats : List SeatView) (cell : ℕ)
    → IfSome low (λ cell. (other : ℕ) → 0 < offers_by other seats → cell ≤ other)
    → IfNone low ((cell : ℕ) → offers_by cell seats ≡ 0)
    → 0 < offers_by cell seats → bound_of low ≤ cell
low_least (Some x) seats cell least none offered = least cell offered
low_least None seats cell least none offered = absurd (let e = none cell in omega arith)

pub low_small : (low : Option ℕ) → IfSome low (λ cell. cell < no_cell) → bound_of low ≤ no_cell
low_small (Some x) small = omega arith
low_small None small = omega arith

-- a bound that is at or below what a seat offered and saw is at or below its floor
pub low_least_of : (low : Option ℕ) (s : SeatView)
    → IfSome low (λ cell. (other : ℕ) → 0 < times other s.offers + times other s.looks → cell ≤ other)
    → IfNone low ((other : ℕ) → other < no_cell → times other s.offers + times other s.looks ≡ 0)
    → bound_of low ≤ no_cell
    → bound_of low ≤ floor_of s
low_least_of low s least none small = ⊎_elim
    (λ below. known low least none (floor_found s below))
    (λ past. omega arith)
    (cases_lt (floor_of s) no_cell)
  where
    known : (o : Option ℕ) → IfSome o (λ cell. (other : ℕ) → 0 < times other s.offers + times other s.looks → cell ≤ other)
        → IfNone o ((other : ℕ) → other < no_cell → times other s.offers + times other s.looks ≡ 0)
        → 0 < times (floor_of s) s.offers + times (floor_of s) s.looks → bound_of o ≤ floor_of s
    known (Some x) at_least nothing there = at_least (floor_of s) there
    known None at_least nothing there = ⊎_elim
        (λ below. let z = nothing (floor_of s) below in absurd (omega arith))
        (λ past. past)
        (cases_lt (floor_of s) no_cell)

-- the bound is at or below each seat's floor
pub low_below : (low : Option ℕ) (seats : List SeatView)
    → IfSome low (λ cell. cell < no_cell)
    → IfSome low (λ cell. (other : ℕ) → 0 < offers_by other seats → cell ≤ other)
    → IfNone low ((cell : ℕ) → offers_by cell seats ≡ 0)
    → ((cell : ℕ) → cell < no_cell → 0 < looks_by cell seats → 0 < offers_by cell seats)
    → All (λ s. bound_of low ≤ floor_of s) seats
low_below low seats small least none looks k d inside =
    let s = get_or seats k d in
    ⊎_elim
    (λ below. low_least low seats (floor_of s) least none
    (let f = floor_found s below in
    let o : times (floor_of s) s.offers ≤ offers_by (floor_of s) seats = get_or-le-sum_by (λ (v : SeatView). times (floor_of s) v.offers) seats k d inside in
    let l : times (floor_of s) s.looks ≤ looks_by (floor_of s) seats = get_or-le-sum_by (λ (v : SeatView). times (floor_of s) v.looks) seats k d inside in
    ⊎_elim (λ seen. looks (floor_of s) below (omega arith)) (λ unseen. omega arith) (cases_lt 0 (times (floor_of s) s.looks))))
    (λ past. let e = low_small low small in omega arith)
    (cases_lt (floor_of s) no_cell)

-- a cell that stands in a list has what all in the list have
times_in : (P : ℕ → Type 0) (cell : ℕ) (cells : List ℕ) → All P cells → 0 < times cell cells → P cell
times_in P cell [] all some_time = absurd (omega arith)
times_in P cell (x ∷ xs) all some_time = ⊎_elim
    (λ same. subst P (sym same) (All-head P x xs all))
    (λ other. times_in P cell xs (All-tail P x xs all)
    (let e = ap {B = ℕ} (λ b. cond b 1 0) (ne_eqb cell x other) in omega (arith, sum_by-cons (λ (y : ℕ). cond (eqb cell y) 1 0) x xs, e)))
    (cases_eq cell x)

-- a cell that some seat offered has what all offers have
pub offered_in : (P : ℕ → Type 0) (cell : ℕ) (seats : List SeatView) → All (λ s. All P s.offers) seats → 0 < offers_by cell seats → P cell
offered_in P cell [] all some_time = absurd (omega arith)
offered_in P cell (s ∷ ss) all some_time = ⊎_elim
    (λ here. times_in P cell s.offers (All-head (λ (v : SeatView). All P v.offers) s ss all) here)
    (λ nowhere. offered_in P cell ss (All-tail (λ (v : SeatView). All P v.offers) s ss all)
    (omega (arith, sum_by-cons (λ (v : SeatView). times cell v.offers) s ss)))
    (cases_lt 0 (times cell s.offers))
