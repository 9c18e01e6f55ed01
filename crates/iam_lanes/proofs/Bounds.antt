-- An offer and a look keep the lane rule.
use Rattle.std.proofs.Common.{◌≡◌, ◌≢◌, ℕ, ◌+◌, ◌<◌, ◌≤◌, min, List, refl, sym, ap, ◌∙◌, subst, ⊎_elim, arith}
use Rattle.std.proofs.lemmas.Bool.{cases_eq, cases_lt}
use mathlib.Core.Option.{some}
use lib.ListN.{get_elem?}
use Rattle.iam_lanes.specs.declared.view.LaneView.{LaneView}
use Rattle.iam_lanes.specs.Code.LaneRule.{LaneState, offers_in, looks_in, with_offer, with_look, offer, look, IsSeated, LaneRule}
use Rattle.iam_lanes.specs.Lanes.{no_cell, times, times_taken}
use Rattle.iam_lanes.proofs.Counts.{times_push_same, times_push_other}
use Rattle.iam_lanes.proofs.Sums.{at_most}
use Rattle.iam_lanes.proofs.Events.{put, same_sum, more_by_one, seats_kept, numbers_kept, ends_kept}

module _ (lengths : List ℕ) (all : ℕ) (s : LaneState) (rule : LaneRule lengths all s) (id : ℕ) (v : LaneView) (at : get_elem? s.views id ≡ some v) where
  still_seated : (w : LaneView) → 0 < v.seats → w.ends ≡ v.ends → w.seats ≡ v.seats → IsSeated w
  still_seated w seat same_ends same_seats = record {
    few = λ lane. let f = (rule.seats.fair id v at).few lane in let e = ap (times lane) same_ends in omega arith;
    idle = λ none. absurd (omega arith);
  }

  module _ (cell : ℕ) (proper : cell < no_cell) (seat : 0 < v.seats) where
    abbrev w : LaneView
    w = with_offer cell v

    abbrev t : LaneState
    t = put lengths all s rule id v at s.counts (min s.bound cell) w

    own_offer : offers_in cell t ≡ offers_in cell s + 1
    own_offer = more_by_one lengths all s rule id v at (λ u. times cell u.offers) w (times_push_same cell v.offers)

    other_offer : (x : ℕ) → x ≢ cell → offers_in x t ≡ offers_in x s
    other_offer x other = same_sum lengths all s rule id v at (λ u. times x u.offers) w (times_push_other x cell v.offers other)

    offers_grow : (x : ℕ) → offers_in x s ≤ offers_in x t
    offers_grow x = ⊎_elim (λ same. let P : ℕ → Type 0 = λ y. offers_in y s ≤ offers_in y t in subst P (sym same) (let e = own_offer in omega arith)) (λ other. let e = other_offer x other in omega arith) (cases_eq x cell)

    offer_below : (x : ℕ) → x < min s.bound cell → offers_in x t ≡ 0
    offer_below x h = other_offer x (λ same. absurd (omega arith)) ∙ rule.bound.below x (omega arith)

    offer_offered : min s.bound cell < no_cell → 0 < offers_in (min s.bound cell) t
    offer_offered h =
        let P : ℕ → Type 0 = λ b. 0 < offers_in b t in
        ⊎_elim
        (λ less. let e : cell ≡ min s.bound cell = omega arith in subst P e (let o = own_offer in omega arith))
        (λ more. let e : s.bound ≡ min s.bound cell = omega arith in subst P e (let g = offers_grow s.bound in let o = rule.bound.offered (omega arith) in omega arith))
        (cases_lt cell s.bound)

    pub offers : LaneRule lengths all (offer cell id v s)
    offers = record {
      ends = ends_kept lengths all s rule id v at (min s.bound cell) w refl;
      numbers = numbers_kept lengths all s rule id v at (min s.bound cell) w refl;
      seats = seats_kept lengths all s rule id v at s.counts (min s.bound cell) w refl (still_seated w seat refl refl);
      bound = record {
        below = offer_below;
        offered = offer_offered;
        proper = λ x h. other_offer x (λ same. absurd (omega arith)) ∙ rule.bound.proper x h;
      };
      looks = λ x h seen.
          let e = same_sum lengths all s rule id v at (λ u. times x u.looks) w refl in
          let o = rule.looks x h (omega arith) in
          let g = offers_grow x in omega arith;
    }

  module _ (seat : 0 < v.seats) where
    abbrev l : LaneView
    l = with_look s.bound v

    abbrev r : LaneState
    r = put lengths all s rule id v at s.counts s.bound l

    same_offers : (x : ℕ) → offers_in x r ≡ offers_in x s
    same_offers x = same_sum lengths all s rule id v at (λ u. times x u.offers) l refl

    seen_offered : (x : ℕ) → x < no_cell → 0 < looks_in x r → 0 < offers_in x r
    seen_offered x h seen =
        let o = same_offers x in
        ⊎_elim
        (λ here. let P : ℕ → Type 0 = λ y. 0 < offers_in y s in let q : 0 < offers_in x s = subst P (sym here) (rule.bound.offered (omega arith)) in omega arith)
        (λ there. let e = same_sum lengths all s rule id v at (λ u. times x u.looks) l (times_push_other x s.bound v.looks there) in let q = rule.looks x h (omega arith) in omega arith)
        (cases_eq x s.bound)

    pub looks : LaneRule lengths all (look id v s)
    looks = record {
      ends = ends_kept lengths all s rule id v at s.bound l refl;
      numbers = numbers_kept lengths all s rule id v at s.bound l refl;
      seats = seats_kept lengths all s rule id v at s.counts s.bound l refl (still_seated l seat refl refl);
      bound = record {
        below = λ x h. same_offers x ∙ rule.bound.below x h;
        offered = λ h. let o = same_offers s.bound in let q = rule.bound.offered h in omega arith;
        proper = λ x h. same_offers x ∙ rule.bound.proper x h;
      };
      looks = seen_offered;
    }

  -- the bound is at or below all that one view has offered or seen
  pub bound_least : s.bound ≤ no_cell → (cell : ℕ) → 0 < times cell v.offers + times cell v.looks → s.bound ≤ cell
  bound_least small cell some_there = ⊎_elim
      (λ low.
      let o = at_most (λ u. times cell u.offers) s.views id v at in
      let k = at_most (λ u. times cell u.looks) s.views id v at in
      let z = rule.bound.below cell low in
      let q : (0 < looks_in cell s) → 0 < offers_in cell s = rule.looks cell (omega arith) in
      absurd (omega arith))
      (λ fine. fine)
      (cases_lt cell s.bound)

  -- one view has no number from the count on
  pub none_later : (lane m : ℕ) → s.counts lane ≤ m → times_taken lane m v.taken ≡ 0
  none_later lane m h = let k = at_most (λ u. times_taken lane m u.taken) s.views id v at in let z = rule.numbers.later lane m h in omega arith
