-- The marks at the start, a mark, and a seat that is split off or joined: each keeps the rule.
use Rattle.std.proofs.Common.{◌≡◌, ◌≢◌, ℕ, zero, suc, ◌+◌, ◌<◌, Bool, cond, eqb, List, [], ◌∷◌, ◌++◌, set, refl, sym, ap, ◌∙◌, subst, ⊎_elim, arith}
use Rattle.std.specs.List.{sum_by}
use Rattle.std.proofs.lemmas.Bool.{eq-eqb, ne_eqb, cases_eq}
use Rattle.std.proofs.lemmas.List.Sums.{sum_by_push}
use mathlib.Core.Option.{some, some-injective, some-ne-none}
use lib.ListN.{get_elem?}
use Rattle.atomic_table.proofs.Lists.{at_set, at_snoc, set_else}
use Rattle.iam_work.specs.declared.view.MarkView.{MarkView}
use Rattle.iam_work.specs.Code.MarkRule.{MarkState, marked_in, found_in, seats_in, with_mark, with_found, mark, IsSeated, MarkRule, joined_view, empty_view, without_seat, one_seat, unseated}
use Rattle.iam_work.specs.Work.{times}
use Rattle.iam_work.proofs.Sums.{sum_set, at_most, times_push_same, times_push_other, times_append}

-- an empty view is seated
empty_seated : (grains all seats : ℕ) → IsSeated (empty_view grains all seats)
empty_seated grains all seats = record { idle = λ none. (refl, refl) }

-- one view, empty, in which all seats stand
pub begins : (grains all : ℕ) (bits : ℕ → ℕ) → ((grain : ℕ) → bits grain ≡ 0)
    → MarkRule grains all (record { bits = bits; views = empty_view grains all all ∷ [] })
begins grains all bits none = record {
  bit = λ grain. let z = none grain in omega arith;
  marks = λ grain. sym (none grain);
  found = λ grain seen. absurd (omega arith);
  inside = λ grain past. none grain;
  seats = record { fair = first; whole = omega arith };
}
  where
    first : (id : ℕ) (v : MarkView) → get_elem? (empty_view grains all all ∷ []) id ≡ some v → IsSeated v
    first zero v at = subst IsSeated (some-injective (empty_view grains all all) v at) (empty_seated grains all all)
    first (suc id) v at = absurd (some-ne-none v (sym at))

-- other views have the same sums
pub record SameSums (s : MarkState) (views : List MarkView) : Type 0 where
  pub marked : (grain : ℕ) → sum_by (λ v. times grain v.marked) views ≡ marked_in grain s
  pub found : (grain : ℕ) → sum_by (λ v. times grain v.found) views ≡ found_in grain s
  pub seats : sum_by (λ v. v.seats) views ≡ seats_in s

-- views with the same sums keep the rule
pub same_sums : (grains all : ℕ) (s : MarkState) (views : List MarkView) → MarkRule grains all s → SameSums s views
    → ((id : ℕ) (v : MarkView) → get_elem? views id ≡ some v → IsSeated v)
    → MarkRule grains all (record { bits = s.bits; views = views })
same_sums grains all s views rule same fair =
    record {
      bit = rule.bit;
      marks = λ grain. same.marked grain ∙ rule.marks grain;
      found = λ grain seen. let m = same.marked grain in let f = same.found grain in let q = rule.found grain (omega arith) in omega arith;
      inside = rule.inside;
      seats = record { fair = fair; whole = same.seats ∙ rule.seats.whole };
    }

module _ (grains all : ℕ) (s : MarkState) (rule : MarkRule grains all s) (id : ℕ) (v : MarkView) (at : get_elem? s.views id ≡ some v) where
  -- an amount that a joined view has from both stays the same when a view is joined into another
  join_sum : (other : ℕ) (w : MarkView) → get_elem? (set s.views id (joined_view v w)) other ≡ some w
      → (f : MarkView → ℕ) → f (joined_view v w) ≡ f v + f w → f unseated ≡ 0
      → sum_by f (set (set s.views id (joined_view v w)) other unseated) ≡ sum_by f s.views
  join_sum other w there f both none =
      let a = sum_set f s.views id v (joined_view v w) at in
      let b = sum_set f (set s.views id (joined_view v w)) other w unseated there in
      omega arith

  pub joins : (other : ℕ) (w : MarkView) → other ≢ id → get_elem? (set s.views id (joined_view v w)) other ≡ some w
      → MarkRule grains all (record { bits = s.bits; views = set (set s.views id (joined_view v w)) other unseated })
  joins other w apart there = same_sums grains all s _ rule (record {
    marked = λ grain. join_sum other w there (λ u. times grain u.marked) (times_append grain v.marked w.marked) refl;
    found = λ grain. join_sum other w there (λ u. times grain u.found) (times_append grain v.found w.found) refl;
    seats = join_sum other w there (λ u. u.seats) refl refl;
  }) (λ j u here. ⊎_elim
      (λ t. subst IsSeated t.1 (empty_seated 0 0 0))
      (λ t. ⊎_elim (λ q. subst IsSeated q.1 both_seated) (λ q. rule.seats.fair j u q.1) (at_set s.views id j (joined_view v w) u t.1))
      (at_set (set s.views id (joined_view v w)) other j unseated u here))
    where
      theirs : IsSeated w
      theirs = rule.seats.fair other w (sym (set_else s.views id other (joined_view v w) apart) ∙ there)

      nothing : (xs ys : List ℕ) → xs ≡ [] → ys ≡ [] → xs ++ ys ≡ []
      nothing xs ys e f = ap (λ zs. zs ++ ys) e ∙ f

      both_seated : IsSeated (joined_view v w)
      both_seated = record {
        idle = λ none.
            let a = (rule.seats.fair id v at).idle (omega arith) in
            let b = theirs.idle (omega arith) in
            (nothing v.marked w.marked a.0 b.0, nothing v.found w.found a.1 b.1);
      }

  pub splits : 0 < v.seats → v.marked ≡ [] → v.found ≡ [] → MarkRule grains all (record { bits = s.bits; views = set s.views id (without_seat v) ++ one_seat v ∷ [] })
  splits more no_mark no_found = same_sums grains all s _ rule (record {
    marked = λ grain. split_sum (λ u. times grain u.marked) (omega arith);
    found = λ grain. split_sum (λ u. times grain u.found) (omega arith);
    seats = split_sum (λ u. u.seats) (omega arith);
  }) (λ j u here. ⊎_elim
      (λ t. ⊎_elim (λ q. subst IsSeated q.1 (record { idle = λ none. (no_mark, no_found) })) (λ q. rule.seats.fair j u q.1) (at_set s.views id j (without_seat v) u t))
      (λ same. subst IsSeated same (empty_seated v.grains v.all 1))
      (at_snoc (set s.views id (without_seat v)) (one_seat v) u j here))
    where
      split_sum : (f : MarkView → ℕ) → f (without_seat v) + f (one_seat v) ≡ f v → sum_by f (set s.views id (without_seat v) ++ one_seat v ∷ []) ≡ sum_by f s.views
      split_sum f e = let a = sum_set f s.views id v (without_seat v) at in let b = sum_by_push f (set s.views id (without_seat v)) (one_seat v) in omega arith

  -- what a bit that is not set says of the view
  pub unmarked : (grain : ℕ) → s.bits grain ≡ 0 → (times grain v.marked ≡ 0) × (times grain v.found ≡ 0)
  unmarked grain clear =
      let m = rule.marks grain in
      let a = at_most (λ u. times grain u.marked) s.views id v at in
      let b = at_most (λ u. times grain u.found) s.views id v at in
      let none : found_in grain s ≡ 0 = ⊎_elim (λ z. z) (λ some_there. let q = rule.found grain (omega arith) in absurd (omega arith)) (cases_eq (found_in grain s) 0) in
      (omega arith, omega arith)

  module _ (grain : ℕ) (inside : grain < grains) (seat : 0 < v.seats) where
    abbrev after : ℕ → ℕ
    after g = cond (eqb g grain) 1 (s.bits g)

    abbrev put : MarkView → MarkState
    put w = record { bits = after; views = set s.views id w }

    set_here : (g : ℕ) → g ≡ grain → after g ≡ 1
    set_here g same = ap (λ b. cond b 1 (s.bits g)) (eq-eqb g grain same)

    stays : (g : ℕ) → g ≢ grain → after g ≡ s.bits g
    stays g other = ap (λ b. cond b 1 (s.bits g)) (ne_eqb g grain other)

    -- what both kinds of mark leave of the rule
    kept : (w : MarkView) → IsSeated w → w.seats ≡ v.seats
        → ((g : ℕ) → marked_in g (put w) ≡ after g) → ((g : ℕ) → 0 < found_in g (put w) → 0 < marked_in g (put w)) → MarkRule grains all (put w)
    kept w seated same marks found = record {
      bit = λ g. ⊎_elim (λ here. let e = set_here g here in omega arith) (λ other. let e = stays g other in let b = rule.bit g in omega arith) (cases_eq g grain);
      marks = marks;
      found = found;
      inside = λ g past. stays g (λ here. absurd (omega arith)) ∙ rule.inside g past;
      seats = record {
        fair = λ j u here. ⊎_elim (λ q. subst IsSeated q.1 seated) (λ q. rule.seats.fair j u q.1) (at_set s.views id j w u here);
        whole = let e = sum_set (λ u. u.seats) s.views id v w at in let a = rule.seats.whole in omega arith;
      };
    }

    first_marks : s.bits grain ≡ 0 → (g : ℕ) → marked_in g (put (with_mark grain v)) ≡ after g
    first_marks clear g =
        let e = sum_set (λ u. times g u.marked) s.views id v (with_mark grain v) at in
        let m = rule.marks g in
        ⊎_elim
        (λ here. let h = set_here g here in let z : s.bits g ≡ 0 = ap s.bits here ∙ clear in
        let p : times g (v.marked ++ grain ∷ []) ≡ times g v.marked + 1 = subst (λ l. times g (v.marked ++ l ∷ []) ≡ times g v.marked + 1) here (times_push_same g v.marked) in omega arith)
        (λ other. let h = stays g other in let p = times_push_other g grain v.marked other in omega arith)
        (cases_eq g grain)

    -- a mark of a grain whose bit is not set
    pub first_mark : s.bits grain ≡ 0 → MarkRule grains all (put (with_mark grain v))
    first_mark clear = kept (with_mark grain v) (record { idle = λ none. absurd (omega arith) }) refl (first_marks clear)
        (λ g seen.
        let f = sum_set (λ u. times g u.found) s.views id v (with_mark grain v) at in
        let q = rule.found g (omega arith) in
        let m = rule.marks g in
        let n = first_marks clear g in
        ⊎_elim (λ here. let h = set_here g here in omega arith) (λ other. let h = stays g other in omega arith) (cases_eq g grain))

    -- a mark of a grain whose bit is set
    pub later_mark : s.bits grain ≡ 1 → MarkRule grains all (put (with_found grain v))
    later_mark is_set = kept (with_found grain v) (record { idle = λ none. absurd (omega arith) }) refl same_marks
        (λ g seen.
        let n = same_marks g in
        let m = rule.marks g in
        ⊎_elim
        (λ here. let h = set_here g here in omega arith)
        (λ other.
        let f = sum_set (λ u. times g u.found) s.views id v (with_found grain v) at in
        let p = times_push_other g grain v.found other in
        let q = rule.found g (omega arith) in
        let h = stays g other in omega arith)
        (cases_eq g grain))
      where
        same_marks : (g : ℕ) → marked_in g (put (with_found grain v)) ≡ after g
        same_marks g =
            let e = sum_set (λ u. times g u.marked) s.views id v (with_found grain v) at in
            let m = rule.marks g in
            ⊎_elim (λ here. let h = set_here g here in let o : s.bits g ≡ 1 = ap s.bits here ∙ is_set in omega arith) (λ other. let h = stays g other in omega arith) (cases_eq g grain)

    pub marks : MarkRule grains all (mark grain id v s)
    marks =
        let b = rule.bit grain in
        let P : Bool → Type 0 = λ z. MarkRule grains all (put (cond z (with_mark grain v) (with_found grain v))) in
        ⊎_elim (λ clear. subst P (sym (eq-eqb (s.bits grain) 0 clear)) (first_mark clear))
        (λ is_set. subst P (sym (ne_eqb (s.bits grain) 0 is_set)) (later_mark (let n = is_set in omega arith)))
        (cases_eq (s.bits grain) 0)
