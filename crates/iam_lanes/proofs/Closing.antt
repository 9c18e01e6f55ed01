-- What the rule says once all seats stand in one view.
use Rattle.std.proofs.Common.{◌≡◌, ℕ, zero, suc, ◌+◌, ◌<◌, ◌≤◌, Bool, true, false, cond, ltb, List, [], ◌∷◌, ◌++◌, get_or, refl, sym, ap, ◌∙◌, subst, ⊎_elim, arith}
use Rattle.std.specs.List.{sum_by}
use Rattle.std.proofs.lemmas.Bool.{lt-ltb, le-ltb, cases_lt, cond_both}
use Rattle.std.proofs.lemmas.List.{length_push}
use Rattle.std.proofs.lemmas.List.Sums.{sum_by_push}
use mathlib.Core.Option.{some, some-injective, some-ne-none}
use lib.ListN.{get_elem?}
use mir.Val.{bool_byte}
use Rattle.atomic_table.specs.Table.{Final, Seen}
use Rattle.atomic_table.specs.Seated.{TableId}
use Rattle.iam_lanes.specs.declared.view.LaneView.{LaneView}
use Rattle.iam_lanes.specs.Code.LaneRule.{LaneState, IsSeated, LaneRule, joined_view}
use Rattle.iam_lanes.specs.Code.Words.{state_of, IsRuled}
use Rattle.iam_lanes.specs.declared.rule.Plan.{Plan}
use Rattle.iam_lanes.specs.Lanes.{LanesId, lanes_id, SeatView, taken_by, ends_by, offers_by, looks_by, ended_below, no_cell, times, times_taken}
use Rattle.iam_lanes.specs.Code.Fields.{seat_view}
use Rattle.iam_lanes.specs.Code.Closing.{Gathers, passed_below}
use Rattle.iam_lanes.proofs.Counts.{times_append, taken_append}
use Rattle.iam_lanes.proofs.Sums.{sum_alone}
use Rattle.iam_lanes.proofs.Seating.{same_sums}

-- the first seat's view
pub gather_first : (seats rest : List SeatView) (s : SeatView) (t : TableId) (w : LaneView) → seats ≡ rest ++ s ∷ [] → seat_view t w ≡ s → w.seats ≡ 1 → Gathers seats rest w
gather_first seats rest s t w split shown alone =
    let P : List SeatView → Type 0 = λ xs. Gathers xs rest w in
    subst P (sym split) (record {
      numbers = λ lane n. let e = ap (λ u. times_taken lane n u.taken) shown in omega (arith, sum_by_push (λ (u : SeatView). times_taken lane n u.taken) rest s);
      ends = λ lane. let e = ap (λ u. times lane u.ends) shown in omega (arith, sum_by_push (λ (u : SeatView). times lane u.ends) rest s);
      offers = λ cell. let e = ap (λ u. times cell u.offers) shown in omega (arith, sum_by_push (λ (u : SeatView). times cell u.offers) rest s);
      looks = λ cell. let e = ap (λ u. times cell u.looks) shown in omega (arith, sum_by_push (λ (u : SeatView). times cell u.looks) rest s);
      count = omega (arith, length_push rest s);
    })

-- one seat more
pub gather_more : (seats more rest : List SeatView) (v w : LaneView) (s : SeatView) (t : TableId) → Gathers seats more v → more ≡ rest ++ s ∷ [] → seat_view t w ≡ s → w.seats ≡ 1 → Gathers seats rest (joined_view v w)
gather_more seats more rest v w s t so_far split shown alone =
    let P : List SeatView → Type 0 = λ xs. Gathers seats xs v in
    let g = subst P split so_far in
    record {
      numbers = λ lane n. let e = ap (λ u. times_taken lane n u.taken) shown in let h = g.numbers lane n in omega (arith, sum_by_push (λ (u : SeatView). times_taken lane n u.taken) rest s, taken_append lane n v.taken w.taken);
      ends = λ lane. let e = ap (λ u. times lane u.ends) shown in let h = g.ends lane in omega (arith, sum_by_push (λ (u : SeatView). times lane u.ends) rest s, times_append lane v.ends w.ends);
      offers = λ cell. let e = ap (λ u. times cell u.offers) shown in let h = g.offers cell in omega (arith, sum_by_push (λ (u : SeatView). times cell u.offers) rest s, times_append cell v.offers w.offers);
      looks = λ cell. let e = ap (λ u. times cell u.looks) shown in let h = g.looks cell in omega (arith, sum_by_push (λ (u : SeatView). times cell u.looks) rest s, times_append cell v.looks w.looks);
      count = let h = g.count in omega (arith, length_push rest s);
    }

-- a word that was read, as a clause names it
pub word_is : (words : List ℕ) (i word : ℕ) → get_elem? words i ≡ some word → get_or words i 0 ≡ word
word_is [] i word at = absurd (some-ne-none word (sym at))
word_is (x ∷ xs) zero word at = some-injective x word at
word_is (x ∷ xs) (suc i) word at = word_is xs i word at

-- a test as a number
pub byte_is : (b : Bool) → bool_byte b ≡ cond b 1 0
byte_is true = refl
byte_is false = refl

pub bit_within : (b : Bool) → cond b 1 0 ≤ 1
bit_within b = cond_both b 1 0 (λ n. n ≤ 1) (λ yes. omega arith) (λ no. omega arith)

-- one lane more is counted
pub passed_more : (lane : ℕ) (words lengths : List ℕ) → passed_below (lane + 1) words lengths ≡ cond (ltb (get_or lengths lane 0) (get_or words (lane + 1) 0)) 1 0 + passed_below lane words lengths
passed_more lane words lengths = let next : lane + 1 ≡ suc lane = omega arith in ap (λ k. passed_below k words lengths) next

-- where all seats stand in one view, the rule holds of that view alone
pub alone : (lengths : List ℕ) (all : ℕ) (s : LaneState) → LaneRule lengths all s → (id : ℕ) (v : LaneView) → get_elem? s.views id ≡ some v → v.seats ≡ all
    → LaneRule lengths all (record { counts = s.counts; bound = s.bound; views = v ∷ [] })
alone lengths all s rule id v at whole =
    let one : (f : LaneView → ℕ) → ((j : ℕ) (u : LaneView) → get_elem? s.views j ≡ some u → u.seats ≡ 0 → f u ≡ 0) → sum_by f (v ∷ []) ≡ sum_by f s.views =
    λ f idle. let e = sum_alone f (λ u. u.seats) s.views id v at (rule.seats.whole ∙ sym whole) idle in omega arith in
    same_sums lengths all s (v ∷ []) rule (record {
      numbers = λ lane n. one (λ u. times_taken lane n u.taken) (λ j u there gone. ap (times_taken lane n) ((rule.seats.fair j u there).idle gone).0);
      ends = λ lane. one (λ u. times lane u.ends) (λ j u there gone. ap (times lane) ((rule.seats.fair j u there).idle gone).1);
      offers = λ cell. one (λ u. times cell u.offers) (λ j u there gone. ap (times cell) ((rule.seats.fair j u there).idle gone).2);
      looks = λ cell. one (λ u. times cell u.looks) (λ j u there gone. ap (times cell) ((rule.seats.fair j u there).idle gone).3);
      seats = one (λ u. u.seats) (λ j u there gone. gone);
    }) only
  where
    only : (j : ℕ) (u : LaneView) → get_elem? (v ∷ []) j ≡ some u → IsSeated u
    only zero u there = subst IsSeated (some-injective v u there) (rule.seats.fair id v at)
    only (suc j) u there = absurd (some-ne-none u (sym there))

-- the rule of the last state, of the view that holds all seats
settled : (lengths : List ℕ) (all id : ℕ) (v : LaneView) (words : List ℕ) (slots : List (Unit {0})) → Final (Seen (IsRuled lengths all) id v) words slots → v.seats ≡ all → LaneRule lengths all (state_of words (v ∷ []))
settled lengths all id v words slots last whole =
    let s = last.0 in
    let P : List ℕ → Type 0 = λ ws. LaneRule lengths all (state_of ws (v ∷ [])) in
    subst P last.2 (alone lengths all (state_of s.words s.views) last.1.0.rule id v last.1.1 whole)

-- the same, of the lanes as callers see them
pub known : (key plan : Plan) → key ≡ plan → (table : TableId) (lanes : LanesId) → lanes_id table plan.lengths.items plan.seats ≡ lanes
    → (id : ℕ) (v : LaneView) (words : List ℕ) (slots : List (Unit {0})) → Final (Seen (IsRuled key.lengths.items key.seats) id v) words slots → v.seats ≡ lanes.seats
    → LaneRule lanes.lengths lanes.seats (state_of words (v ∷ []))
known key plan key_is table lanes shown id v words slots last whole =
    let same_lengths = ap (λ k. k.lengths.items) key_is ∙ ap (λ l. l.lengths) shown in
    let same_seats = ap (λ k. k.seats) key_is ∙ ap (λ l. l.seats) shown in
    let rule = settled key.lengths.items key.seats id v words slots last (whole ∙ sym same_seats) in
    let P : List ℕ → Type 0 = λ ls. LaneRule ls key.seats (state_of words (v ∷ [])) in
    subst (λ all. LaneRule lanes.lengths all (state_of words (v ∷ []))) same_seats (subst P same_lengths rule)

module _ (lengths words : List ℕ) (all : ℕ) (v : LaneView) (seats : List SeatView) (rule : LaneRule lengths all (state_of words (v ∷ []))) (all_in : Gathers seats [] v) where
  numbers_are : (lane n : ℕ) → sum_by (λ u. times_taken lane n u.taken) (v ∷ []) ≡ taken_by lane n seats
  numbers_are lane n = let g = all_in.numbers lane n in omega arith

  ends_are : (lane : ℕ) → sum_by (λ u. times lane u.ends) (v ∷ []) ≡ ends_by lane seats
  ends_are lane = let g = all_in.ends lane in omega arith

  offers_are : (cell : ℕ) → sum_by (λ u. times cell u.offers) (v ∷ []) ≡ offers_by cell seats
  offers_are cell = let g = all_in.offers cell in omega arith

  looks_are : (cell : ℕ) → sum_by (λ u. times cell u.looks) (v ∷ []) ≡ looks_by cell seats
  looks_are cell = let g = all_in.looks cell in omega arith

  pub once : (lane n : ℕ) → taken_by lane n seats ≤ 1
  once lane n =
      let e = numbers_are lane n in
      ⊎_elim
      (λ inside. ⊎_elim
      (λ below. let o = rule.numbers.once lane n inside below in omega arith)
      (λ above. let o = rule.numbers.later lane n above in omega arith)
      (cases_lt n (get_or words (lane + 1) 0)))
      (λ past. let o = rule.numbers.past lane n past in omega arith)
      (cases_lt n (get_or lengths lane 0))

  pub inside : (lane n : ℕ) → get_or lengths lane 0 ≤ n → taken_by lane n seats ≡ 0
  inside lane n past = let e = numbers_are lane n in let o = rule.numbers.past lane n past in omega arith

  pub every : (lane n : ℕ) → 0 < ends_by lane seats → n < get_or lengths lane 0 → taken_by lane n seats ≡ 1
  every lane n ended below =
      let e = numbers_are lane n in
      let f = ends_are lane in
      let r = rule.ends lane in
      let o = rule.numbers.once lane n below (omega arith) in
      omega arith

  passed_ended : (lane : ℕ) → ◌≡◌ {A = ℕ} (cond (ltb (get_or lengths lane 0) (get_or words (lane + 1) 0)) 1 0) (cond (ltb 0 (ends_by lane seats)) 1 0)
  passed_ended lane =
      let f = ends_are lane in
      let r = rule.ends lane in
      ⊎_elim
      (λ more. ap (λ b. cond b 1 0) (lt-ltb (get_or lengths lane 0) (get_or words (lane + 1) 0) more ∙ sym (lt-ltb 0 (ends_by lane seats) (omega arith))))
      (λ less. ap (λ b. cond b 1 0) (le-ltb (get_or lengths lane 0) (get_or words (lane + 1) 0) less ∙ sym (le-ltb 0 (ends_by lane seats) (omega arith))))
      (cases_lt (get_or lengths lane 0) (get_or words (lane + 1) 0))

  pub ended : (lanes : ℕ) → passed_below lanes words lengths ≡ ended_below lanes seats
  ended zero = refl
  ended (suc lane) = λ i. passed_ended lane i + ended lane i

  pub looked : (cell : ℕ) → cell < no_cell → 0 < looks_by cell seats → 0 < offers_by cell seats
  looked cell proper seen =
      let e = looks_are cell in
      let o = offers_are cell in
      let r = rule.looks cell proper (omega arith) in
      omega arith

  pub bound_offered : get_or words 0 0 < no_cell → 0 < offers_by (get_or words 0 0) seats
  bound_offered some_cell = let o = offers_are (get_or words 0 0) in let r = rule.bound.offered some_cell in omega arith

  pub bound_below : (cell : ℕ) → 0 < offers_by cell seats → get_or words 0 0 ≤ cell
  bound_below cell offered = ⊎_elim (λ below. let o = offers_are cell in let r = rule.bound.below cell below in absurd (omega arith)) (λ fine. fine) (cases_lt cell (get_or words 0 0))

  pub bound_proper : (cell : ℕ) → 0 < offers_by cell seats → cell < no_cell
  bound_proper cell offered = ⊎_elim (λ fine. fine) (λ past. let o = offers_are cell in let r = rule.bound.proper cell past in absurd (omega arith)) (cases_lt cell no_cell)
