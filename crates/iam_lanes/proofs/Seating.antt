-- The lanes at the start, and a seat that is split off or joined.
use Rattle.std.proofs.Common.{◌≡◌, ◌≢◌, ℕ, zero, suc, ◌+◌, ◌<◌, List, [], ◌∷◌, ◌++◌, set, refl, sym, ap, ◌∙◌, subst, ⊎_elim, arith}
use Rattle.std.specs.List.{sum_by}
use Rattle.std.proofs.lemmas.List.Sums.{sum_by_push}
use mathlib.Core.Option.{some, some-injective, some-ne-none}
use lib.ListN.{get_elem?}
use Rattle.atomic_table.proofs.Lists.{at_set, at_snoc, set_else}
use Rattle.iam_lanes.specs.declared.view.LaneView.{LaneView}
use Rattle.iam_lanes.specs.Code.LaneRule.{LaneState, taken_in, ends_in, offers_in, looks_in, seats_in, IsSeated, LaneRule, joined_view, empty_view, without_seat, one_seat, unseated}
use Rattle.iam_lanes.specs.Lanes.{no_cell, times, times_taken}
use Rattle.iam_lanes.proofs.Counts.{times_append, taken_append}
use Rattle.iam_lanes.proofs.Sums.{sum_set}

-- an empty view is seated
pub empty_seated : (lengths : List ℕ) (all seats : ℕ) → IsSeated (empty_view lengths all seats)
empty_seated lengths all seats = record { few = λ lane. omega arith; idle = λ none. (refl, refl, refl, refl) }

-- other views have the same sums
pub record SameSums (s : LaneState) (views : List LaneView) : Type 0 where
  pub numbers : (lane n : ℕ) → sum_by (λ v. times_taken lane n v.taken) views ≡ taken_in lane n s
  pub ends : (lane : ℕ) → sum_by (λ v. times lane v.ends) views ≡ ends_in lane s
  pub offers : (cell : ℕ) → sum_by (λ v. times cell v.offers) views ≡ offers_in cell s
  pub looks : (cell : ℕ) → sum_by (λ v. times cell v.looks) views ≡ looks_in cell s
  pub seats : sum_by (λ v. v.seats) views ≡ seats_in s

-- views with the same sums keep the rule
pub same_sums : (lengths : List ℕ) (all : ℕ) (s : LaneState) (views : List LaneView) → LaneRule lengths all s → SameSums s views
    → ((id : ℕ) (v : LaneView) → get_elem? views id ≡ some v → IsSeated v)
    → LaneRule lengths all (record { counts = s.counts; bound = s.bound; views = views })
same_sums lengths all s views rule same fair =
    record {
      ends = λ lane. same.ends lane ∙ rule.ends lane;
      numbers = record {
        once = λ lane n h k. same.numbers lane n ∙ rule.numbers.once lane n h k;
        past = λ lane n h. same.numbers lane n ∙ rule.numbers.past lane n h;
        later = λ lane n h. same.numbers lane n ∙ rule.numbers.later lane n h;
      };
      seats = record { fair = fair; whole = same.seats ∙ rule.seats.whole };
      bound = record {
        below = λ cell h. same.offers cell ∙ rule.bound.below cell h;
        offered = λ h. let o = same.offers s.bound in let q = rule.bound.offered h in omega arith;
        proper = λ cell h. same.offers cell ∙ rule.bound.proper cell h;
      };
      looks = λ cell h seen. let o = same.offers cell in let l = same.looks cell in let q = rule.looks cell h (omega arith) in omega arith;
    }

-- one view, empty, in which all seats stand
pub begins : (lengths : List ℕ) (all : ℕ) (counts : ℕ → ℕ) → ((lane : ℕ) → counts lane ≡ 0)
    → LaneRule lengths all (record { counts = counts; bound = no_cell; views = empty_view lengths all all ∷ [] })
begins lengths all counts none = record {
  ends = λ lane. let z = none lane in omega arith;
  numbers = record { once = λ lane n h k. let z = none lane in absurd (omega arith); past = λ lane n h. refl; later = λ lane n h. refl };
  seats = record {
    fair = λ id v at. first id v at;
    whole = omega arith;
  };
  bound = record { below = λ cell h. refl; offered = λ h. absurd (omega arith); proper = λ cell h. refl };
  looks = λ cell h seen. absurd (omega arith);
}
  where
    first : (id : ℕ) (v : LaneView) → get_elem? (empty_view lengths all all ∷ []) id ≡ some v → IsSeated v
    first zero v at = subst IsSeated (some-injective (empty_view lengths all all) v at) (empty_seated lengths all all)
    first (suc id) v at = absurd (some-ne-none v (sym at))

module _ (lengths : List ℕ) (all : ℕ) (s : LaneState) (rule : LaneRule lengths all s) (id : ℕ) (v : LaneView) (at : get_elem? s.views id ≡ some v) where
  -- an amount that a joined view has from both stays the same when a view is joined into another
  join_sum : (other : ℕ) (w : LaneView) → get_elem? (set s.views id (joined_view v w)) other ≡ some w
      → (f : LaneView → ℕ) → f (joined_view v w) ≡ f v + f w → f unseated ≡ 0
      → sum_by f (set (set s.views id (joined_view v w)) other unseated) ≡ sum_by f s.views
  join_sum other w there f both none =
      let a = sum_set f s.views id v (joined_view v w) at in
      let b = sum_set f (set s.views id (joined_view v w)) other w unseated there in
      omega arith

  pub joins : (other : ℕ) (w : LaneView) → other ≢ id → get_elem? (set s.views id (joined_view v w)) other ≡ some w
      → LaneRule lengths all (record { counts = s.counts; bound = s.bound; views = set (set s.views id (joined_view v w)) other unseated })
  joins other w apart there = same_sums lengths all s _ rule join_sums (λ j u found. ⊎_elim
      (λ t. subst IsSeated t.1 (empty_seated [] 0 0))
      (λ t. ⊎_elim (λ q. subst IsSeated q.1 both_seated) (λ q. rule.seats.fair j u q.1) (at_set s.views id j (joined_view v w) u t.1))
      (at_set (set s.views id (joined_view v w)) other j unseated u found))
    where
      join_sums : SameSums s (set (set s.views id (joined_view v w)) other unseated)
      join_sums = record {
        numbers = λ lane n. join_sum other w there (λ u. times_taken lane n u.taken) (taken_append lane n v.taken w.taken) refl;
        ends = λ lane. join_sum other w there (λ u. times lane u.ends) (times_append lane v.ends w.ends) refl;
        offers = λ cell. join_sum other w there (λ u. times cell u.offers) (times_append cell v.offers w.offers) refl;
        looks = λ cell. join_sum other w there (λ u. times cell u.looks) (times_append cell v.looks w.looks) refl;
        seats = join_sum other w there (λ u. u.seats) refl refl;
      }

      theirs : IsSeated w
      theirs = rule.seats.fair other w (sym (set_else s.views id other (joined_view v w) apart) ∙ there)

      mine : IsSeated v
      mine = rule.seats.fair id v at

      nothing : {A : Type 0} (xs ys : List A) → xs ≡ [] → ys ≡ [] → xs ++ ys ≡ []
      nothing xs ys e f = ap (λ zs. zs ++ ys) e ∙ f

      both_seated : IsSeated (joined_view v w)
      both_seated = record {
        few = λ lane. let e = times_append lane v.ends w.ends in let a = mine.few lane in let b = theirs.few lane in omega arith;
        idle = λ none.
            let a = mine.idle (omega arith) in
            let b = theirs.idle (omega arith) in
            (nothing v.taken w.taken a.0 b.0, nothing v.ends w.ends a.1 b.1, nothing v.offers w.offers a.2 b.2, nothing v.looks w.looks a.3 b.3);
      }

  pub splits : 1 < v.seats → v.ends ≡ [] → LaneRule lengths all (record { counts = s.counts; bound = s.bound; views = set s.views id (without_seat v) ++ one_seat v ∷ [] })
  splits more none = same_sums lengths all s _ rule split_sums (λ j u found. ⊎_elim
      (λ t. ⊎_elim (λ q. subst IsSeated q.1 left_seated) (λ q. rule.seats.fair j u q.1) (at_set s.views id j (without_seat v) u t))
      (λ same. subst IsSeated same (empty_seated v.lengths v.all 1))
      (at_snoc (set s.views id (without_seat v)) (one_seat v) u j found))
    where
      vs : List LaneView
      vs = set s.views id (without_seat v) ++ one_seat v ∷ []

      split_sum : (f : LaneView → ℕ) → f (without_seat v) + f (one_seat v) ≡ f v → sum_by f vs ≡ sum_by f s.views
      split_sum f e = let a = sum_set f s.views id v (without_seat v) at in let b = sum_by_push f (set s.views id (without_seat v)) (one_seat v) in omega arith

      split_sums : SameSums s vs
      split_sums = record {
        numbers = λ lane n. split_sum (λ u. times_taken lane n u.taken) (omega arith);
        ends = λ lane. split_sum (λ u. times lane u.ends) (omega arith);
        offers = λ cell. split_sum (λ u. times cell u.offers) (omega arith);
        looks = λ cell. split_sum (λ u. times cell u.looks) (omega arith);
        seats = split_sum (λ u. u.seats) (omega arith);
      }

      left_seated : IsSeated (without_seat v)
      left_seated = record { few = λ lane. let e = ap (times lane) none in omega arith; idle = λ gone. absurd (omega arith) }
