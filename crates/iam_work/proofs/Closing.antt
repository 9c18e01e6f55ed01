-- What the rule says once all seats stand in one view.
use Rattle.std.proofs.Common.{◌≡◌, ℕ, zero, suc, ◌+◌, ◌/◌, ◌%◌, ◌^◌, ◌<◌, ◌≤◌, cond, ltb, List, [], ◌∷◌, ◌++◌, get_or, bit_and, Global, refl, sym, ap, ◌∙◌, subst, ⊎_elim, arith}
use Rattle.std.specs.List.{sum_by}
use Rattle.std.specs.Int.{bit_at}
use Rattle.std.proofs.lemmas.Bool.{lt-ltb, le-ltb, cases_lt}
use Rattle.std.proofs.lemmas.List.{length_push}
use Rattle.std.proofs.lemmas.List.Sums.{sum_by_push}
use Rattle.std.proofs.lemmas.Nat.Bits.{bit_at-lt, shr_and_one}
use mathlib.Core.Option.{some, some-injective, some-ne-none}
use lib.ListN.{get_elem?}
use Rattle.atomic_table.specs.Table.{Final, Seen}
use Rattle.atomic_table.specs.Seated.{TableId}
use Rattle.iam_work.specs.declared.view.MarkView.{MarkView}
use Rattle.iam_work.specs.declared.marks.Plan.{Plan}
use Rattle.iam_work.specs.Code.MarkRule.{MarkState, IsSeated, MarkRule, joined_view}
use Rattle.iam_work.specs.Work.{WorkId, SeatView, work_id, marked_by, found_by, marked_below, times}
use Rattle.iam_work.specs.Code.Words.{bit_of, state_of, IsRuled}
use Rattle.iam_work.specs.Code.Closing.{Gathers, set_below}
use Rattle.iam_work.proofs.Sums.{found_at, sum_alone, times_append}
use Rattle.iam_work.proofs.Marking.{same_sums}

-- the first seat's view
pub gather_first : (seats rest : List SeatView) (s : SeatView) (w : MarkView) → seats ≡ rest ++ s ∷ [] → w.marked ≡ s.marked → w.found ≡ s.found → w.seats ≡ 1 → Gathers seats rest w
gather_first seats rest s w split marked found alone =
    let P : List SeatView → Type 0 = λ xs. Gathers xs rest w in
    subst P (sym split) (record {
      marked = λ grain. let e = ap (times grain) marked in omega (arith, sum_by_push (λ (u : SeatView). times grain u.marked) rest s);
      found = λ grain. let e = ap (times grain) found in omega (arith, sum_by_push (λ (u : SeatView). times grain u.found) rest s);
      count = omega (arith, length_push rest s);
    })

-- one seat more
pub gather_more : (seats more rest : List SeatView) (v w : MarkView) (s : SeatView) → Gathers seats more v → more ≡ rest ++ s ∷ [] → w.marked ≡ s.marked → w.found ≡ s.found → w.seats ≡ 1 → Gathers seats rest (joined_view v w)
gather_more seats more rest v w s so_far split marked found alone =
    let P : List SeatView → Type 0 = λ xs. Gathers seats xs v in
    let g = subst P split so_far in
    record {
      marked = λ grain. let e = ap (times grain) marked in let h = g.marked grain in omega (arith, sum_by_push (λ (u : SeatView). times grain u.marked) rest s, times_append grain v.marked w.marked);
      found = λ grain. let e = ap (times grain) found in let h = g.found grain in omega (arith, sum_by_push (λ (u : SeatView). times grain u.found) rest s, times_append grain v.found w.found);
      count = let h = g.count in omega (arith, length_push rest s);
    }

-- a bit as the code reads it
pub bit_read : (words : List ℕ) (grain word : ℕ) → get_elem? words (grain / 64) ≡ some word → bit_and (word / 2 ^ (grain % 64)) 1 ≡ bit_of words grain
bit_read words grain word at = shr_and_one word (grain % 64) ∙ ap (λ n. bit_at n (grain % 64)) (sym (found_at words (grain / 64) word 0 at).1)

-- one grain more is counted
pub set_more : (grain : ℕ) (words : List ℕ) → set_below (grain + 1) words ≡ bit_of words grain + set_below grain words
set_more grain words = let next : grain + 1 ≡ suc grain = omega arith in ap (λ k. set_below k words) next

pub bit_within : (words : List ℕ) (grain : ℕ) → bit_of words grain ≤ 1
bit_within words grain = let b = bit_at-lt (get_or words (grain / 64) 0) (grain % 64) in omega arith

-- where all seats stand in one view, the rule holds of that view alone
alone : (grains all : ℕ) (s : MarkState) → MarkRule grains all s → (id : ℕ) (v : MarkView) → get_elem? s.views id ≡ some v → v.seats ≡ all
    → MarkRule grains all (record { bits = s.bits; views = v ∷ [] })
alone grains all s rule id v at whole =
    let one : (f : MarkView → ℕ) → ((j : ℕ) (u : MarkView) → get_elem? s.views j ≡ some u → u.seats ≡ 0 → f u ≡ 0) → sum_by f (v ∷ []) ≡ sum_by f s.views =
    λ f idle. let e = sum_alone f (λ u. u.seats) s.views id v at (rule.seats.whole ∙ sym whole) idle in omega arith in
    same_sums grains all s (v ∷ []) rule (record {
      marked = λ grain. one (λ u. times grain u.marked) (λ j u there gone. ap (times grain) ((rule.seats.fair j u there).idle gone).0);
      found = λ grain. one (λ u. times grain u.found) (λ j u there gone. ap (times grain) ((rule.seats.fair j u there).idle gone).1);
      seats = one (λ u. u.seats) (λ j u there gone. gone);
    }) only
  where
    only : (j : ℕ) (u : MarkView) → get_elem? (v ∷ []) j ≡ some u → IsSeated u
    only zero u there = subst IsSeated (some-injective v u there) (rule.seats.fair id v at)
    only (suc j) u there = absurd (some-ne-none u (sym there))

-- the rule of the last state, of the view that holds all seats
settled : (grains all id : ℕ) (v : MarkView) (words : List ℕ) (slots : List (Unit {0})) → Final (Seen (IsRuled grains all) id v) words slots → v.seats ≡ all → MarkRule grains all (state_of words (v ∷ []))
settled grains all id v words slots last whole =
    let s = last.0 in
    let P : List ℕ → Type 0 = λ ws. MarkRule grains all (state_of ws (v ∷ [])) in
    subst P last.2 (alone grains all (state_of s.words s.views) last.1.0.rule id v last.1.1 whole)

-- the same, of the work as callers see it
pub known : (key plan : Plan) → key ≡ plan → (table : TableId) (deques : List ((ℕ × ℕ) × Global)) (work : WorkId) → work_id table deques plan.grains plan.seats ≡ work
    → (id : ℕ) (v : MarkView) (words : List ℕ) (slots : List (Unit {0})) → Final (Seen (IsRuled key.grains key.seats) id v) words slots → v.seats ≡ work.seats
    → MarkRule work.grains work.seats (state_of words (v ∷ []))
known key plan key_is table deques work shown id v words slots last whole =
    let same_grains = ap (λ k. k.grains) key_is ∙ ap (λ w. w.grains) shown in
    let same_seats = ap (λ k. k.seats) key_is ∙ ap (λ w. w.seats) shown in
    let rule = settled key.grains key.seats id v words slots last (whole ∙ sym same_seats) in
    let P : ℕ → Type 0 = λ many. MarkRule many key.seats (state_of words (v ∷ [])) in
    subst (λ all. MarkRule work.grains all (state_of words (v ∷ []))) same_seats (subst P same_grains rule)

module _ (words : List ℕ) (grains all : ℕ) (v : MarkView) (seats : List SeatView) (rule : MarkRule grains all (state_of words (v ∷ []))) (all_in : Gathers seats [] v) where
  marked_are : (grain : ℕ) → marked_by grain seats ≡ bit_of words grain
  marked_are grain = let g = all_in.marked grain in let m = rule.marks grain in omega arith

  pub once : (grain : ℕ) → marked_by grain seats ≤ 1
  once grain = let e = marked_are grain in let b = rule.bit grain in omega arith

  pub inside : (grain : ℕ) → grains ≤ grain → marked_by grain seats ≡ 0
  inside grain past = marked_are grain ∙ rule.inside grain past

  pub found : (grain : ℕ) → 0 < found_by grain seats → marked_by grain seats ≡ 1
  found grain seen =
      let g = all_in.found grain in
      let h = all_in.marked grain in
      let o = once grain in
      let q = rule.found grain (omega arith) in omega arith

  bit_counts : (grain : ℕ) → ◌≡◌ {A = ℕ} (bit_of words grain) (cond (ltb 0 (marked_by grain seats)) 1 0)
  bit_counts grain =
      let e = marked_are grain in
      let b = rule.bit grain in
      ⊎_elim
      (λ more. let one : bit_of words grain ≡ 1 = omega arith in one ∙ sym (ap (λ b. cond b 1 0) (lt-ltb 0 (marked_by grain seats) more)))
      (λ none. let zero_bit : bit_of words grain ≡ 0 = omega arith in zero_bit ∙ sym (ap (λ b. cond b 1 0) (le-ltb 0 (marked_by grain seats) none)))
      (cases_lt 0 (marked_by grain seats))

  pub counted : (many : ℕ) → set_below many words ≡ marked_below many seats
  counted zero = refl
  counted (suc grain) = λ i. bit_counts grain i + counted grain i
