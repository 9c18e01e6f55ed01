-- Each event keeps the lane rule.
use Rattle.std.proofs.Common.{◌≡◌, ◌≢◌, ◌⊎◌, ℕ, ◌+◌, ◌-◌, ◌<◌, ◌≤◌, Bool, cond, eqb, List, [], ◌∷◌, ◌++◌, get_or, set, refl, sym, ap, ◌∙◌, subst, inl, inr, ⊎_elim, arith}
use Rattle.std.specs.List.{sum_by}
use Rattle.std.proofs.lemmas.Bool.{eq-eqb, ne_eqb, lt-ltb, le-ltb, cases_eq, cases_lt}
use mathlib.Core.Option.{some}
use lib.ListN.{get_elem?}
use Rattle.atomic_table.proofs.Lists.{at_set}
use Rattle.iam_lanes.specs.declared.view.LaneView.{LaneView}
use Rattle.iam_lanes.specs.Code.LaneRule.{LaneState, taken_in, ends_in, offers_in, looks_in, with_number, with_end, take, NumbersStandOnce, IsSeated, SeatsAddUp, BoundIsLeast, LaneRule}
use Rattle.iam_lanes.specs.Lanes.{no_cell, times, times_taken}
use Rattle.iam_lanes.proofs.Counts.{times_push_same, times_push_other, taken_push_same, taken_push_other}
use Rattle.iam_lanes.proofs.Sums.{sum_set, sum_le}

-- the counts after a take, of the lane itself and of another
risen : (counts : ℕ → ℕ) (lane k : ℕ) → k ≡ lane → cond (eqb k lane) (counts lane + 1) (counts k) ≡ counts k + 1
risen counts lane k same = ap (λ b. cond b (counts lane + 1) (counts k)) (eq-eqb k lane same) ∙ ap (λ l. counts l + 1) (sym same)

stays : (counts : ℕ → ℕ) (lane k : ℕ) → k ≢ lane → cond (eqb k lane) (counts lane + 1) (counts k) ≡ counts k
stays counts lane k other = ap (λ b. cond b (counts lane + 1) (counts k)) (ne_eqb k lane other)

module _ (lengths : List ℕ) (all : ℕ) (s : LaneState) (rule : LaneRule lengths all s) where
  -- a lane's count is at most its length and the seats
  pub counts_within : (lane : ℕ) → s.counts lane ≤ get_or lengths lane 0 + all
  counts_within lane =
      let few = sum_le (λ v. times lane v.ends) (λ v. v.seats) s.views (λ i v at. (rule.seats.fair i v at).few lane) in
      let e = rule.ends lane in
      let w = rule.seats.whole in
      omega arith

  module _ (id : ℕ) (v : LaneView) (at : get_elem? s.views id ≡ some v) where
    -- the state with another view in place of v
    abbrev pub put : (ℕ → ℕ) → ℕ → LaneView → LaneState
    put counts bound w = record { counts = counts; bound = bound; views = set s.views id w }

    pub same_sum : (f : LaneView → ℕ) (w : LaneView) → f w ≡ f v → sum_by f (set s.views id w) ≡ sum_by f s.views
    same_sum f w e = omega (arith, sum_set f s.views id v w at, e)

    pub more_by_one : (f : LaneView → ℕ) (w : LaneView) → f w ≡ f v + 1 → sum_by f (set s.views id w) ≡ sum_by f s.views + 1
    more_by_one f w e = omega (arith, sum_set f s.views id v w at, e)

    pub seats_kept : (counts : ℕ → ℕ) (bound : ℕ) (w : LaneView) → w.seats ≡ v.seats → IsSeated w → SeatsAddUp all (put counts bound w)
    seats_kept counts bound w same seated = record {
      fair = λ j u there. ⊎_elim (λ t. subst IsSeated t.1 seated) (λ t. rule.seats.fair j u t.1) (at_set s.views id j w u there);
      whole = same_sum (λ u. u.seats) w same ∙ rule.seats.whole;
    }

    bound_kept : (counts : ℕ → ℕ) (w : LaneView) → w.offers ≡ v.offers → BoundIsLeast (put counts s.bound w)
    bound_kept counts w same =
        let e : (cell : ℕ) → offers_in cell (put counts s.bound w) ≡ offers_in cell s = λ cell. same_sum (λ u. times cell u.offers) w (ap (times cell) same) in
        record {
          below = λ cell h. e cell ∙ rule.bound.below cell h;
          offered = λ h. let p = e s.bound in let q = rule.bound.offered h in omega arith;
          proper = λ cell h. e cell ∙ rule.bound.proper cell h;
        }

    looks_kept : (counts : ℕ → ℕ) (w : LaneView) → w.offers ≡ v.offers → w.looks ≡ v.looks
        → (cell : ℕ) → cell < no_cell → 0 < looks_in cell (put counts s.bound w) → 0 < offers_in cell (put counts s.bound w)
    looks_kept counts w same same_looks cell h seen =
        let e = same_sum (λ u. times cell u.offers) w (ap (times cell) same) in
        let f = same_sum (λ u. times cell u.looks) w (ap (times cell) same_looks) in
        let q = rule.looks cell h (omega arith) in
        omega arith

    pub numbers_kept : (bound : ℕ) (w : LaneView) → w.taken ≡ v.taken → NumbersStandOnce lengths (put s.counts bound w)
    numbers_kept bound w same =
        let e : (lane n : ℕ) → sum_by (λ u. times_taken lane n u.taken) (set s.views id w) ≡ taken_in lane n s = λ lane n. same_sum (λ u. times_taken lane n u.taken) w (ap (times_taken lane n) same) in
        record {
          once = λ lane n h k. e lane n ∙ rule.numbers.once lane n h k;
          past = λ lane n h. e lane n ∙ rule.numbers.past lane n h;
          later = λ lane n h. e lane n ∙ rule.numbers.later lane n h;
        }

    pub ends_kept : (bound : ℕ) (w : LaneView) → w.ends ≡ v.ends → (lane : ℕ) → ends_in lane (put s.counts bound w) ≡ s.counts lane - get_or lengths lane 0
    ends_kept bound w same lane = same_sum (λ u. times lane u.ends) w (ap (times lane) same) ∙ rule.ends lane

    module _ (lane : ℕ) (seat : 0 < v.seats) where
      abbrev after : ℕ → ℕ
      after k = cond (eqb k lane) (s.counts lane + 1) (s.counts k)

      -- a take of a number
      module _ (more : s.counts lane < get_or lengths lane 0) where
        abbrev n : ℕ
        n = s.counts lane

        abbrev w : LaneView
        w = with_number lane n v

        own_number : sum_by (λ u. times_taken lane n u.taken) (set s.views id w) ≡ 1
        own_number =
            let e = more_by_one (λ u. times_taken lane n u.taken) w (taken_push_same lane n v.taken) in
            let z = rule.numbers.later lane n (omega arith) in
            omega arith

        other_number : (k m : ℕ) → (k ≢ lane) ⊎ (m ≢ n) → sum_by (λ u. times_taken k m u.taken) (set s.views id w) ≡ taken_in k m s
        other_number k m other = same_sum (λ u. times_taken k m u.taken) w (taken_push_other k m lane n v.taken other)

        number_ends : (k : ℕ) → ends_in k (put after s.bound w) ≡ after k - get_or lengths k 0
        number_ends k =
            let e = same_sum (λ u. times k u.ends) w refl ∙ rule.ends k in
            ⊎_elim (λ same. let c = risen s.counts lane k same in let p : s.counts k < get_or lengths k 0 = subst (λ l. s.counts l < get_or lengths l 0) (sym same) more in omega arith)
            (λ other. let c = stays s.counts lane k other in omega arith) (cases_eq k lane)

        number_once : (k m : ℕ) → m < get_or lengths k 0 → m < after k → sum_by (λ u. times_taken k m u.taken) (set s.views id w) ≡ 1
        number_once k m h below = ⊎_elim
            (λ same. let c = risen s.counts lane k same in ⊎_elim
            (λ here. let here' : m ≡ n = here in subst (λ l. sum_by (λ u. times_taken l m u.taken) (set s.views id w) ≡ 1) (sym same) (subst (λ j. sum_by (λ u. times_taken lane j u.taken) (set s.views id w) ≡ 1) (sym here') own_number))
            (λ there. let e = ap s.counts same in other_number k m (inr there) ∙ rule.numbers.once k m h (omega arith))
            (cases_eq m n))
            (λ other. let c = stays s.counts lane k other in other_number k m (inl other) ∙ rule.numbers.once k m h (omega arith))
            (cases_eq k lane)

        number_past : (k m : ℕ) → get_or lengths k 0 ≤ m → sum_by (λ u. times_taken k m u.taken) (set s.views id w) ≡ 0
        number_past k m h = ⊎_elim
            (λ same. let p : get_or lengths lane 0 ≤ m = subst (λ l. get_or lengths l 0 ≤ m) same h in other_number k m (inr (λ here. absurd (omega arith))) ∙ rule.numbers.past k m h)
            (λ other. other_number k m (inl other) ∙ rule.numbers.past k m h)
            (cases_eq k lane)

        number_later : (k m : ℕ) → after k ≤ m → sum_by (λ u. times_taken k m u.taken) (set s.views id w) ≡ 0
        number_later k m h = ⊎_elim
            (λ same. let c = risen s.counts lane k same in let e = ap s.counts same in other_number k m (inr (λ here. absurd (omega arith))) ∙ rule.numbers.later k m (omega arith))
            (λ other. let c = stays s.counts lane k other in other_number k m (inl other) ∙ rule.numbers.later k m (omega arith))
            (cases_eq k lane)

        seated : IsSeated w
        seated = let f = rule.seats.fair id v at in record { few = f.few; idle = λ none. absurd (omega arith) }

        pub takes_number : LaneRule lengths all (put after s.bound w)
        takes_number = record {
          ends = number_ends;
          numbers = record { once = number_once; past = number_past; later = number_later };
          seats = seats_kept after s.bound w refl seated;
          bound = bound_kept after w refl;
          looks = looks_kept after w refl refl;
        }

      -- a take that sees the end
      module _ (done : get_or lengths lane 0 ≤ s.counts lane) (first : times lane v.ends ≡ 0) where
        abbrev e : LaneView
        e = with_end lane v

        end_ends : (k : ℕ) → ends_in k (put after s.bound e) ≡ after k - get_or lengths k 0
        end_ends k = let r = rule.ends k in ⊎_elim
            (λ same. let c = risen s.counts lane k same in
            let p : get_or lengths k 0 ≤ s.counts k = subst (λ l. get_or lengths l 0 ≤ s.counts l) (sym same) done in
            let m = more_by_one (λ u. times k u.ends) e (subst (λ l. times k (v.ends ++ l ∷ []) ≡ times k v.ends + 1) same (times_push_same k v.ends)) in
            omega arith)
            (λ other. let c = stays s.counts lane k other in
            let m = same_sum (λ u. times k u.ends) e (times_push_other k lane v.ends other) in
            omega arith)
            (cases_eq k lane)

        end_once : (k m : ℕ) → m < get_or lengths k 0 → m < after k → sum_by (λ u. times_taken k m u.taken) (set s.views id e) ≡ 1
        end_once k m h below = same_sum (λ u. times_taken k m u.taken) e refl ∙ rule.numbers.once k m h (⊎_elim
            (λ same. let p : get_or lengths k 0 ≤ s.counts k = subst (λ l. get_or lengths l 0 ≤ s.counts l) (sym same) done in omega arith)
            (λ other. let c = stays s.counts lane k other in omega arith)
            (cases_eq k lane))

        end_later : (k m : ℕ) → after k ≤ m → sum_by (λ u. times_taken k m u.taken) (set s.views id e) ≡ 0
        end_later k m h = same_sum (λ u. times_taken k m u.taken) e refl ∙ rule.numbers.later k m (⊎_elim
            (λ same. let c = risen s.counts lane k same in omega arith)
            (λ other. let c = stays s.counts lane k other in omega arith)
            (cases_eq k lane))

        end_few : (k : ℕ) → times k (v.ends ++ lane ∷ []) ≤ v.seats
        end_few k = ⊎_elim
            (λ same. let t = subst (λ l. times k (v.ends ++ l ∷ []) ≡ times k v.ends + 1) same (times_push_same k v.ends) in let z : times k v.ends ≡ 0 = subst (λ l. times l v.ends ≡ 0) (sym same) first in omega arith)
            (λ other. let t = times_push_other k lane v.ends other in let f = (rule.seats.fair id v at).few k in omega arith)
            (cases_eq k lane)

        pub takes_end : LaneRule lengths all (put after s.bound e)
        takes_end = record {
          ends = end_ends;
          numbers = record { once = end_once; past = λ k m h. same_sum (λ u. times_taken k m u.taken) e refl ∙ rule.numbers.past k m h; later = end_later };
          seats = seats_kept after s.bound e refl (record { few = end_few; idle = λ none. absurd (omega arith) });
          bound = bound_kept after e refl;
          looks = looks_kept after e refl refl;
        }

      pub takes : times lane v.ends ≡ 0 → LaneRule lengths all (take lengths lane id v s)
      takes first =
          let P : Bool → Type 0 = λ b. LaneRule lengths all (put after s.bound (cond b (with_number lane (s.counts lane) v) (with_end lane v))) in
          ⊎_elim (λ more. subst P (sym (lt-ltb (s.counts lane) (get_or lengths lane 0) more)) (takes_number more))
          (λ done. subst P (sym (le-ltb (s.counts lane) (get_or lengths lane 0) done)) (takes_end done first))
          (cases_lt (s.counts lane) (get_or lengths lane 0))
