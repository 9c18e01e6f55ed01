-- What a call on the lanes owes to the table, and what its seat gains.
use Rattle.std.proofs.Common.{◌≡◌, ℕ, ◌+◌, ◌%◌, ◌^◌, ◌<◌, ◌≤◌, min, max, Bool, true, false, ◌&&◌, cond, eqb, ltb, List, [], ◌∷◌, ◌++◌, length, get_or, set, sum, Option, Some, None, IfSome, IfNone, refl, sym, ap, ◌∙◌, subst, ⊎_elim, arith}
use Rattle.std.proofs.lemmas.Bool.{eq-eqb, lt-ltb, le-ltb, ltb-false, cases_eq, cases_lt, cases_Bool, cond_both}
use Rattle.std.proofs.lemmas.List.{get_or-set_same, get_or-set_other, get_or_past}
use Rattle.std.proofs.lemmas.List.Sums.{sum_by-cons, get_or-le-sum_by}
use Rattle.atomic_table.specs.Table.{Me, Allows}
use Rattle.atomic_table.specs.Seated.{TableId}
use Rattle.iam_lanes.specs.declared.view.LaneView.{LaneView}
use Rattle.iam_lanes.specs.declared.rule.Plan.{Plan}
use Rattle.iam_lanes.specs.Code.LaneRule.{after_take, with_number, with_end, with_offer, with_look}
use Rattle.iam_lanes.specs.Code.Words.{IsRuled, tells_take, tells_offer, tells_look}
use Rattle.iam_lanes.specs.Lanes.{LanesId, SeatView, lanes_id, gains_number, sees_end, gains_offer, gains_look, next_number, left_in, no_cell, times, times_taken}
use Rattle.iam_lanes.specs.Code.Fields.{seat_view, IsFlagged, IsLaid}
use Rattle.iam_lanes.proofs.Counts.{times_push_same, times_push_other}
use Rattle.iam_lanes.proofs.Steps as steps

-- a length is within the sum of all
pub length_within : (lengths : List ℕ) (lane : ℕ) → get_or lengths lane 0 ≤ sum lengths
length_within lengths lane = ⊎_elim
    (λ inside. get_or-le-sum_by (λ (x : ℕ). x) lengths lane 0 inside)
    (λ past. let e = get_or_past lengths lane 0 past in omega arith)
    (cases_lt lane (length lengths))

module _ (key plan : Plan) (key_is : key ≡ plan) (table : TableId) (laid : IsLaid table plan.lengths.items plan.seats) (id : ℕ) (me : Me (Unit {0}) LaneView) (alone : me.0.seats ≡ 1) (same : me.0.lengths ≡ plan.lengths.items) where
  small : (lane : ℕ) → get_or plan.lengths.items lane 0 ≤ 4096
  small lane = let w = length_within plan.lengths.items lane in let f = laid.few_numbers in omega arith

  pub allows_take : (lane : ℕ) → lane < length plan.lengths.items → times lane me.0.ends ≡ 0
      → Allows (IsRuled key.lengths.items key.seats) table.slots id me (lane + 1) (λ n. (n + 1) % 2 ^ 64) (λ n after. tells_take (lane + 1) me.0 n after.0 × (after.1 ≡ me.1))
  allows_take lane inside first =
      let P : Plan → Type 0 = λ k. Allows (IsRuled k.lengths.items k.seats) table.slots id me (lane + 1) (λ n. (n + 1) % 2 ^ 64) (λ n after. tells_take (lane + 1) me.0 n after.0 × (after.1 ≡ me.1)) in
      subst P (sym key_is) (steps.takes plan.lengths.items plan.seats small laid.few_seats table.slots id me same (omega arith) lane inside first)

  pub allows_offer : (cell : ℕ) → cell < no_cell → Allows (IsRuled key.lengths.items key.seats) table.slots id me 0 (λ n. min n cell) (λ n after. tells_offer cell me.0 after.0 × (after.1 ≡ me.1))
  allows_offer cell proper =
      let P : Plan → Type 0 = λ k. Allows (IsRuled k.lengths.items k.seats) table.slots id me 0 (λ n. min n cell) (λ n after. tells_offer cell me.0 after.0 × (after.1 ≡ me.1)) in
      subst P (sym key_is) (steps.offers plan.lengths.items plan.seats small laid.few_seats table.slots id me same (omega arith) cell proper)

  pub allows_look : Allows (IsRuled key.lengths.items key.seats) table.slots id me 0 (λ n. n) (λ n after. tells_look me.0 n after.0 × (after.1 ≡ me.1))
  allows_look =
      let P : Plan → Type 0 = λ k. Allows (IsRuled k.lengths.items k.seats) table.slots id me 0 (λ n. n) (λ n after. tells_look me.0 n after.0 × (after.1 ≡ me.1)) in
      subst P (sym key_is) (steps.looks plan.lengths.items plan.seats small laid.few_seats table.slots id me same (omega arith))

-- a seat of these lanes has their table, their lengths and their number of seats
pub record SameLanes (t table : TableId) (v : LaneView) (ls : List ℕ) (all : ℕ) : Type 0 where
  pub here : t ≡ table
  pub lengths : v.lengths ≡ ls
  pub seats : v.all ≡ all

pub same_lanes : (t table : TableId) (v : LaneView) (lengths : List ℕ) (seats : ℕ) (old : SeatView) (lanes : LanesId)
    → seat_view t v ≡ old → old.lanes ≡ lanes → lanes_id table lengths seats ≡ lanes → SameLanes t table v lengths seats
same_lanes t table v lengths seats old lanes shown of_lanes is =
    let e : lanes_id t v.lengths v.all ≡ lanes_id table lengths seats = ap (λ s. s.lanes) shown ∙ of_lanes ∙ sym is in
    record { here = ap (λ l. l.table) e; lengths = ap (λ l. l.lengths) e; seats = ap (λ l. l.seats) e }

-- a take below the length gains the number, and another an end
pub takes_number : (lengths : List ℕ) (lane n : ℕ) (v w : LaneView) → w ≡ after_take lengths lane n v → n < get_or lengths lane 0 → w ≡ with_number lane n v
takes_number lengths lane n v w e below = e ∙ ap (λ b. cond b (with_number lane n v) (with_end lane v)) (lt-ltb n (get_or lengths lane 0) below)

pub takes_end : (lengths : List ℕ) (lane n : ℕ) (v w : LaneView) → w ≡ after_take lengths lane n v → get_or lengths lane 0 ≤ n → w ≡ with_end lane v
takes_end lengths lane n v w e past = e ∙ ap (λ b. cond b (with_number lane n v) (with_end lane v)) (le-ltb n (get_or lengths lane 0) past)

-- a flag that is not set: no end was seen
pub unflagged : (b : Bool) (n : ℕ) → b ≡ ltb 0 n → b ≡ false → n ≡ 0
unflagged b n is clear = let h = ltb-false 0 n (sym is ∙ clear) in omega arith

-- where a list has no number of a lane from n on, its next number is at most n
pub next_below : (lane n : ℕ) (xs : List (ℕ × ℕ)) → ((m : ℕ) → n ≤ m → times_taken lane m xs ≡ 0) → next_number lane xs ≤ n
next_below lane n [] fresh = omega arith
next_below lane n (p ∷ ps) fresh =
    let term : ℕ → ℕ × ℕ → ℕ = λ m q. cond (eqb lane q.0 && eqb m q.1) 1 0 in
    let rest = next_below lane n ps (λ m h. let z = fresh m h in omega (arith, sum_by-cons (term m) p ps)) in
    let r : ℕ = next_number lane ps in
    cond_both (eqb lane p.0) (max (p.1 + 1) r) r (λ k. k ≤ n)
    (λ yes. ⊎_elim
    (λ below. omega arith)
    (λ above.
    let z = fresh p.1 above in
    let one : term p.1 p ≡ 1 = ap (λ b. cond (b && eqb p.1 p.1) 1 0) yes ∙ ap (λ b. cond b 1 0) (eq-eqb p.1 p.1 refl) in
    absurd (omega (arith, sum_by-cons (term p.1) p ps)))
    (cases_lt p.1 n))
    (λ no. rest)

pub next_push : (lane n : ℕ) (xs : List (ℕ × ℕ)) → next_number lane (xs ++ (lane, n) ∷ []) ≡ max (n + 1) (next_number lane xs)
next_push lane n [] = ap (λ b. cond b (max (n + 1) 0) 0) (eq-eqb lane lane refl)
next_push lane n (p ∷ ps) =
    let e = next_push lane n ps in
    let r : ℕ = next_number lane ps in
    ⊎_elim
    (λ yes. ap (λ b. cond b (max (p.1 + 1) (next_number lane (ps ++ (lane, n) ∷ []))) (next_number lane (ps ++ (lane, n) ∷ []))) yes ∙ omega arith ∙ ap (λ b. max (n + 1) (cond b (max (p.1 + 1) r) r)) (sym yes))
    (λ no. ap (λ b. cond b (max (p.1 + 1) (next_number lane (ps ++ (lane, n) ∷ []))) (next_number lane (ps ++ (lane, n) ∷ []))) no ∙ e ∙ ap (λ b. max (n + 1) (cond b (max (p.1 + 1) r) r)) (sym no))
    (cases_Bool (eqb lane p.0))

-- a number at or above all that the seat had of its lane brings the seat nearer to the lane's end
pub nearer : (lane n : ℕ) (s : SeatView) → n < get_or s.lanes.lengths lane 0 → ((m : ℕ) → n ≤ m → times_taken lane m s.taken ≡ 0) → left_in lane (gains_number lane n s) < left_in lane s
nearer lane n s inside fresh =
    let b = next_below lane n s.taken fresh in
    let e = next_push lane n s.taken in
    omega arith

-- the flags after an end of a lane
pub flags_set : (flags : List Bool) (lane : ℕ) (ends : List ℕ) → lane < length flags → IsFlagged flags ends → IsFlagged (set flags lane true) (ends ++ lane ∷ [])
flags_set flags lane ends inside flagged k h = ⊎_elim
    (λ same.
    let e = subst (λ l. times k (ends ++ l ∷ []) ≡ times k ends + 1) same (times_push_same k ends) in
    let l : 0 < times k (ends ++ lane ∷ []) = omega arith in
    subst (λ j. get_or (set flags lane true) j false ≡ true) (sym same) (get_or-set_same flags lane true false inside) ∙ sym (lt-ltb 0 (times k (ends ++ lane ∷ [])) l))
    (λ other. get_or-set_other flags lane k true false other ∙ flagged k h ∙ ap (ltb 0) (sym (times_push_other k lane ends other)))
    (cases_eq k lane)

-- an end that is the first of its lane
pub first_end : (lane : ℕ) (s : SeatView) → times lane s.ends ≡ 0 → record s { ends = s.ends ++ lane ∷ [] } ≡ sees_end lane s
first_end lane s z = ap (λ b. cond b (record s { ends = s.ends ++ lane ∷ [] }) s) (sym (eq-eqb (times lane s.ends) 0 z))

-- what the seat shows after a number, and after an end
pub shows_number : (t u : TableId) (v w : LaneView) (old : SeatView) (lane n : ℕ) → u ≡ t → w ≡ with_number lane n v → seat_view t v ≡ old → seat_view u w ≡ gains_number lane n old
shows_number t u v w old lane n here gained shown = (λ i. seat_view (here i) (gained i)) ∙ ap (gains_number lane n) shown

pub shows_end : (t u : TableId) (v w : LaneView) (old : SeatView) (lane : ℕ) → u ≡ t → w ≡ with_end lane v → seat_view t v ≡ old → times lane v.ends ≡ 0 → seat_view u w ≡ sees_end lane old
shows_end t u v w old lane here gained shown first = (λ i. seat_view (here i) (gained i)) ∙ first_end lane (seat_view t v) first ∙ ap (sees_end lane) shown

-- what the seat shows after an offer, and after a look
pub shows_offer : (t u : TableId) (v w : LaneView) (old : SeatView) (cell : ℕ) → u ≡ t → w ≡ with_offer cell v → seat_view t v ≡ old → seat_view u w ≡ gains_offer cell old
shows_offer t u v w old cell here gained shown = (λ i. seat_view (here i) (gained i)) ∙ ap (gains_offer cell) shown

pub shows_look : (t u : TableId) (v w : LaneView) (old : SeatView) (cell word : ℕ) → u ≡ t → w ≡ with_look word v → seat_view t v ≡ old → cell ≡ word → seat_view u w ≡ gains_look cell old
shows_look t u v w old cell word here gained shown is = (λ i. seat_view (here i) (gained i)) ∙ (λ i. gains_look (sym is i) (shown i))

-- a look at the bound is at or below what the seat offered or saw
pub look_least : (t : TableId) (v : LaneView) (old : SeatView) (word : ℕ) → seat_view t v ≡ old
    → ((cell : ℕ) → 0 < times cell v.offers + times cell v.looks → word ≤ cell)
    → (cell : ℕ) → 0 < times cell old.offers + times cell old.looks → word ≤ cell
look_least t v old word shown least cell some_there =
    least cell (subst (λ s. 0 < times cell s.offers + times cell s.looks) (sym shown) some_there)

-- a fact of the number that an option holds, and a fact for an option that holds none
pub some_at : (o : Option ℕ) (word : ℕ) (Q : ℕ → Type 0) → IfSome o (λ x. x ≡ word) → Q word → IfSome o Q
some_at None word Q e q = tt
some_at (Some x) word Q e q = subst Q (sym e) q

pub some_if : (o : Option ℕ) (word : ℕ) (P Q : ℕ → Type 0) → IfSome o (λ x. x ≡ word) → IfSome o P → (P word → Q word) → IfSome o Q
some_if None word P Q e p f = tt
some_if (Some x) word P Q e p f = subst Q (sym e) (f (subst P e p))

pub none_at : (o : Option ℕ) (P Q : Type 0) → IfNone o P → (P → Q) → IfNone o Q
none_at None P Q p f = f p
none_at (Some x) P Q p f = tt

-- below the least of what is there, nothing is
pub none_below : (word other total : ℕ) → (0 < total → word ≤ other) → other < word → total ≡ 0
none_below word other total least below = ⊎_elim (λ z. z) (λ more. let l = least (omega arith) in absurd (omega arith)) (cases_eq total 0)
