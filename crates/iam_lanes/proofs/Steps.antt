-- Each step on the table is an event of the lanes, and keeps the rule of the table.
use Rattle.std.proofs.Common.{◌≡◌, ℕ, ◌+◌, ◌%◌, ◌^◌, ◌<◌, ◌≤◌, min, cond, eqb, ltb, List, [], ◌∷◌, length, get_or, set, refl, sym, ap, ◌∙◌, subst, ⊎_elim, arith}
use Rattle.std.proofs.lemmas.Bool.{eq-eqb, ne_eqb, cases_eq}
use Rattle.std.proofs.lemmas.List.{length-set, get_or-set_same, get_or-set_other}
use Rattle.std.proofs.Math.Nat.{mod-eq_of_lt}
use mathlib.Core.Option.{some}
use lib.ListN.{get_elem?}
use Rattle.atomic_table.specs.Table.{Me, keeps, Allows, Splits, Joins}
use Rattle.iam_lanes.specs.declared.view.LaneView.{LaneView}
use Rattle.iam_lanes.specs.Code.LaneRule.{LaneRule, take, with_number, with_end, with_offer, with_look, joined_view, without_seat, one_seat, unseated}
use Rattle.iam_lanes.specs.Lanes.{no_cell, times, times_taken}
use Rattle.iam_lanes.specs.Code.Words.{state_of, IsRuled, opened, FindsCount, tells_take, tells_offer, tells_look}
use Rattle.iam_lanes.proofs.Events as event
use Rattle.iam_lanes.proofs.Bounds as bound
use Rattle.iam_lanes.proofs.Seating as seating

module _ (lengths : List ℕ) (all : ℕ) where
  -- a take's words and views are those of the event
  took : (words : List ℕ) (views : List LaneView) (lane id : ℕ) (v : LaneView) → lane + 1 < length words
      → (word : ℕ) → word ≡ get_or words (lane + 1) 0 + 1
      → state_of (set words (lane + 1) word) (set views id (cond (ltb (get_or words (lane + 1) 0) (get_or lengths lane 0)) (with_number lane (get_or words (lane + 1) 0) v) (with_end lane v)))
      ≡ take lengths lane id v (state_of words views)
  took words views lane id v inside word is =
      let n : ℕ = get_or words (lane + 1) 0 in
      let count : (k : ℕ) → get_or (set words (lane + 1) word) (k + 1) 0 ≡ cond (eqb k lane) (n + 1) (get_or words (k + 1) 0) = λ k. ⊎_elim
      (λ same. subst (λ j. get_or (set words (lane + 1) word) (j + 1) 0 ≡ cond (eqb k lane) (n + 1) (get_or words (k + 1) 0)) (sym same) (get_or-set_same words (lane + 1) word 0 inside ∙ is ∙ ap (λ b. cond b (n + 1) (get_or words (k + 1) 0)) (sym (eq-eqb k lane same))))
      (λ other. get_or-set_other words (lane + 1) (k + 1) word 0 (λ e. other (omega arith)) ∙ ap (λ b. cond b (n + 1) (get_or words (k + 1) 0)) (sym (ne_eqb k lane other)))
      (cases_eq k lane) in
      let b : get_or (set words (lane + 1) word) 0 0 ≡ get_or words 0 0 = get_or-set_other words (lane + 1) 0 word 0 (λ e. absurd (omega arith)) in
      λ i. record { counts = λ k. count k i; bound = b i; views = set views id (cond (ltb n (get_or lengths lane 0)) (with_number lane n v) (with_end lane v)) }

  -- a step on the bound
  set_bound : (words : List ℕ) (views : List LaneView) (cell : ℕ) → 0 < length words
      → state_of (set words 0 cell) views ≡ record { counts = λ lane. get_or words (lane + 1) 0; bound = cell; views = views }
  set_bound words views cell some_word =
      let count : (k : ℕ) → get_or (set words 0 cell) (k + 1) 0 ≡ get_or words (k + 1) 0 = λ k. get_or-set_other words 0 (k + 1) cell 0 (λ e. absurd (omega arith)) in
      let b : get_or (set words 0 cell) 0 0 ≡ cell = get_or-set_same words 0 cell 0 some_word in
      λ i. record { counts = λ k. count k i; bound = b i; views = views }

  -- the words at the start: no cell, and a count of 0 for each lane
  pub begins : (words : List ℕ) → length words ≡ length lengths + 1 → get_or words 0 0 ≡ no_cell → ((lane : ℕ) → get_or words (lane + 1) 0 ≡ 0)
      → IsRuled lengths all (record { words = words; homes = []; views = opened lengths all ∷ [] })
  begins words wide bound_is zeros =
      let counts : ℕ → ℕ = λ lane. get_or words (lane + 1) 0 in
      let P : ℕ → Type 0 = λ b. LaneRule lengths all (record { counts = counts; bound = b; views = opened lengths all ∷ [] }) in
      record { wide = wide; rule = subst P (sym bound_is) (seating.begins lengths all counts zeros) }

  module _ (small : (lane : ℕ) → get_or lengths lane 0 ≤ 4096) (few : all ≤ 64) (slots id : ℕ) (me : Me (Unit {0}) LaneView) (same : me.0.lengths ≡ lengths) (seat : 0 < me.0.seats) where
    abbrev v : LaneView
    v = me.0

    pub takes : (lane : ℕ) → lane < length lengths → times lane v.ends ≡ 0
        → Allows (IsRuled lengths all) slots id me (lane + 1) (λ n. (n + 1) % 2 ^ 64) (λ n after. tells_take (lane + 1) me.0 n after.0 × (after.1 ≡ me.1))
    takes lane inside first s holds homes at fits =
        let n : ℕ = get_or s.words (lane + 1) 0 in
        let w : LaneView = cond (ltb n (get_or lengths lane 0)) (with_number lane n v) (with_end lane v) in
        let within = event.counts_within lengths all (state_of s.words s.views) holds.rule lane in
        let short = small lane in
        let next : (n + 1) % 18446744073709551616 ≡ n + 1 = mod-eq_of_lt (omega arith) in
        let wide = holds.wide in
        let kept = event.takes lengths all (state_of s.words s.views) holds.rule id v at lane seat first in (
          w,
          keeps,
          tt,
          record {
            wide = length-set s.words (lane + 1) ((n + 1) % 18446744073709551616) ∙ holds.wide;
            rule = subst (LaneRule lengths all) (sym (took s.words s.views lane id v (omega arith) ((n + 1) % 18446744073709551616) next)) kept;
          },
          ((λ other is. told lane other (omega arith) n at (λ m h. bound.none_later lengths all (state_of s.words s.views) holds.rule id v at lane m h)), refl),
        )
      where
        told : (lane other : ℕ) → lane ≡ other → (n : ℕ) → get_elem? s.views id ≡ some v → ((m : ℕ) → n ≤ m → times_taken lane m v.taken ≡ 0)
            → FindsCount other n v (cond (ltb n (get_or lengths lane 0)) (with_number lane n v) (with_end lane v))
        told lane other is n at none_later =
            let P : ℕ → Type 0 = λ l. FindsCount l n v (cond (ltb n (get_or lengths lane 0)) (with_number lane n v) (with_end lane v)) in
            subst P is (record { view = ap (λ ls. cond (ltb n (get_or ls lane 0)) (with_number lane n v) (with_end lane v)) (sym same); fresh = none_later })

    pub offers : (cell : ℕ) → cell < no_cell → Allows (IsRuled lengths all) slots id me 0 (λ n. min n cell) (λ n after. tells_offer cell me.0 after.0 × (after.1 ≡ me.1))
    offers cell proper s holds homes at fits =
        let wide = holds.wide in (
          with_offer cell v,
          keeps,
          tt,
          record {
            wide = length-set s.words 0 (min (get_or s.words 0 0) cell) ∙ holds.wide;
            rule = subst (LaneRule lengths all) (sym (set_bound s.words (set s.views id (with_offer cell v)) (min (get_or s.words 0 0) cell) (omega arith)))
                (bound.offers lengths all (state_of s.words s.views) holds.rule id v at cell proper seat);
          },
          (refl, refl),
        )

    pub looks : Allows (IsRuled lengths all) slots id me 0 (λ n. n) (λ n after. tells_look me.0 n after.0 × (after.1 ≡ me.1))
    looks s holds homes at fits =
        let n : ℕ = get_or s.words 0 0 in
        let wide = holds.wide in (
          with_look n v,
          keeps,
          tt,
          record {
            wide = length-set s.words 0 n ∙ holds.wide;
            rule = subst (LaneRule lengths all) (sym (set_bound s.words (set s.views id (with_look n v)) n (omega arith)))
                (bound.looks lengths all (state_of s.words s.views) holds.rule id v at seat);
          },
          (record { gained = refl; least = bound.bound_least lengths all (state_of s.words s.views) holds.rule id v at (omega arith) }, refl),
        )

  pub splits : (id : ℕ) (v : LaneView) → 1 < v.seats → v.ends ≡ [] → Splits (IsRuled lengths all) id v (without_seat v) (one_seat v)
  splits id v more no_end s holds at = record {
    wide = holds.wide;
    rule = seating.splits lengths all (state_of s.words s.views) holds.rule id v at more no_end;
  }

  pub joins : (id : ℕ) (v : LaneView) (other : ℕ) (w : LaneView) → Joins (IsRuled lengths all) id v other w (joined_view v w) unseated
  joins id v other w s holds at apart there = record {
    wide = holds.wide;
    rule = seating.joins lengths all (state_of s.words s.views) holds.rule id v at other w apart there;
  }
