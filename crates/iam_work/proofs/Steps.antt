-- Each step on the table is an event of the marks, and keeps the rule of the table.
use Rattle.std.proofs.Common.{◌≡◌, ◌≢◌, ℕ, ◌*◌, ◌/◌, ◌%◌, ◌^◌, ◌<◌, cond, eqb, List, [], ◌∷◌, length, get_or, set, refl, sym, ap, ◌∙◌, subst, ⊎_elim, arith}
use Rattle.std.specs.Int.{bit_at}
use Rattle.std.specs.Int.RustNames.{bit_or}
use Rattle.std.proofs.lemmas.Bool.{eq-eqb, ne_eqb, cases_eq}
use Rattle.std.proofs.lemmas.List.{length-set, get_or-set_same, get_or-set_other}
use Rattle.std.proofs.lemmas.Nat.Bits.{bit_at-zero, bit_at_set_same, bit_at_set_other}
use mir.Syntax.{w64}
use Rattle.atomic_table.specs.Table.{Me, keeps, Allows, Splits, Joins}
use Rattle.iam_work.specs.declared.view.MarkView.{MarkView}
use Rattle.iam_work.specs.Code.MarkRule.{MarkState, MarkRule, mark, after_mark, joined_view, without_seat, one_seat, unseated}
use Rattle.iam_work.specs.Code.Words.{bit_of, words_for, state_of, IsRuled, opened, FindsBit, tells_mark}
use Rattle.iam_work.proofs.Marking as event

-- two grains of one word and one bit are the same
same_grain : (g h : ℕ) → g / 64 ≡ h / 64 → g % 64 ≡ h % 64 → g ≡ h
same_grain g h words bits = omega arith

-- masks of one bit tell the bit
same_mask : (j k : ℕ) → j < 64 → k < 64 → 1 * 2 ^ j % 2 ^ 64 ≡ 1 * 2 ^ k % 2 ^ 64 → j ≡ k
same_mask j k small_j small_k e = ⊎_elim
    (λ same. same)
    (λ other.
    let a = bit_at_set_same w64 0 j small_j in
    let b = bit_at_set_other w64 0 k small_k j other ∙ bit_at-zero j in
    let c = ap (λ m. bit_at (bit_or 0 m) j) e in
    absurd (omega arith))
    (cases_eq j k)

-- a grain's word is among those of all
pub word_within : (grains grain : ℕ) → grain < grains → grain / 64 < words_for grains
word_within grains grain inside = omega arith

-- the bits of words after the bit of a grain is set
bits_set : (words : List ℕ) (grain : ℕ) → grain / 64 < length words → (g : ℕ)
    → bit_of (set words (grain / 64) (bit_or (get_or words (grain / 64) 0) (1 * 2 ^ (grain % 64) % 2 ^ 64))) g ≡ cond (eqb g grain) 1 (bit_of words g)
bits_set words grain inside g =
    let word : ℕ = bit_or (get_or words (grain / 64) 0) (1 * 2 ^ (grain % 64) % 2 ^ 64) in
    let small : grain % 64 < 64 = omega arith in
    let own : get_or (set words (grain / 64) word) (grain / 64) 0 ≡ word = get_or-set_same words (grain / 64) word 0 inside in
    ⊎_elim
    (λ here.
    let P : ℕ → Type 0 = λ x. bit_at (get_or (set words (grain / 64) word) (x / 64) 0) (x % 64) ≡ 1 in
    subst P (sym here) (ap (λ n. bit_at n (grain % 64)) own ∙ bit_at_set_same w64 (get_or words (grain / 64) 0) (grain % 64) small)
    ∙ ap (λ b. cond b 1 (bit_of words g)) (sym (eq-eqb g grain here)))
    (λ other.
    ⊎_elim
    (λ same_word.
    let apart : g % 64 ≢ grain % 64 = λ e. other (same_grain g grain same_word e) in
    let P : ℕ → Type 0 = λ w. bit_at (get_or (set words (grain / 64) word) w 0) (g % 64) ≡ bit_at (get_or words w 0) (g % 64) in
    subst P (sym same_word) (ap (λ n. bit_at n (g % 64)) own ∙ bit_at_set_other w64 (get_or words (grain / 64) 0) (grain % 64) small (g % 64) apart))
    (λ other_word. ap (λ n. bit_at n (g % 64)) (get_or-set_other words (grain / 64) (g / 64) word 0 other_word))
    (cases_eq (g / 64) (grain / 64))
    ∙ ap (λ b. cond b 1 (bit_of words g)) (sym (ne_eqb g grain other)))
    (cases_eq g grain)

module _ (grains all : ℕ) where
  -- the words at the start
  pub begins : (words : List ℕ) → length words ≡ words_for grains → ((i : ℕ) → get_or words i 0 ≡ 0)
      → IsRuled grains all (record { words = words; homes = []; views = opened grains all ∷ [] })
  begins words wide zeros = record {
    wide = wide;
    rule = event.begins grains all (bit_of words) (λ grain. ap (λ n. bit_at n (grain % 64)) (zeros (grain / 64)) ∙ bit_at-zero (grain % 64));
  }

  pub marks : (slots id : ℕ) (me : Me (Unit {0}) MarkView) → 0 < me.0.seats → (grain : ℕ) → grain < grains
      → Allows (IsRuled grains all) slots id me (grain / 64) (λ n. bit_or n (1 * 2 ^ (grain % 64) % 2 ^ 64)) (λ n after. tells_mark (grain / 64) (1 * 2 ^ (grain % 64) % 2 ^ 64) me.0 n after.0 × (after.1 ≡ me.1))
  marks slots id me seat grain inside s holds homes at fits =
      let v : MarkView = me.0 in
      let before : MarkState = state_of s.words s.views in
      let word : ℕ = bit_or (get_or s.words (grain / 64) 0) (1 * 2 ^ (grain % 64) % 2 ^ 64) in
      let w : MarkView = after_mark grain (bit_of s.words grain) v in
      let wide = holds.wide in
      let within : grain / 64 < length s.words = let i = word_within grains grain inside in omega arith in
      let bits = bits_set s.words grain within in
      let kept = event.marks grains all before holds.rule id v at grain inside seat in
      let same : state_of (set s.words (grain / 64) word) (set s.views id w) ≡ mark grain id v before = λ i. record { bits = λ g. bits g i; views = set s.views id w } in (
        w,
        keeps,
        tt,
        record {
          wide = length-set s.words (grain / 64) word ∙ holds.wide;
          rule = subst (MarkRule grains all) (sym same) kept;
        },
        ((λ other same_word mask. told other same_word mask), refl),
      )
    where
      told : (other : ℕ) → grain / 64 ≡ other / 64 → 1 * 2 ^ (grain % 64) % 2 ^ 64 ≡ 1 * 2 ^ (other % 64) % 2 ^ 64
          → FindsBit other (bit_at (get_or s.words (grain / 64) 0) (other % 64)) me.0 (after_mark grain (bit_of s.words grain) me.0)
      told other same_word mask =
          let bits : grain % 64 ≡ other % 64 = same_mask (grain % 64) (other % 64) (omega arith) (omega arith) mask in
          let is : grain ≡ other = same_grain grain other same_word bits in
          let P : ℕ → Type 0 = λ g. FindsBit g (bit_at (get_or s.words (grain / 64) 0) (g % 64)) me.0 (after_mark grain (bit_of s.words grain) me.0) in
          subst P is (record { view = refl; fresh = event.unmarked grains all (state_of s.words s.views) holds.rule id me.0 at grain })

  pub splits : (id : ℕ) (v : MarkView) → 0 < v.seats → v.marked ≡ [] → v.found ≡ [] → Splits (IsRuled grains all) id v (without_seat v) (one_seat v)
  splits id v more no_mark no_found s holds at = record {
    wide = holds.wide;
    rule = event.splits grains all (state_of s.words s.views) holds.rule id v at more no_mark no_found;
  }

  pub joins : (id : ℕ) (v : MarkView) (other : ℕ) (w : MarkView) → Joins (IsRuled grains all) id v other w (joined_view v w) unseated
  joins id v other w s holds at apart there = record {
    wide = holds.wide;
    rule = event.joins grains all (state_of s.words s.views) holds.rule id v at other w apart there;
  }
