-- Bits of words, and words made of truth values one at a time, from the last on.
use Rattle.std.proofs.Common.{Some, ◌≡◌, ◌⊎◌, inl, inr, ◌↔◌, ℕ, suc, zero, ◌+◌, ◌-◌, ◌*◌, ◌/◌, ◌^◌, ◌<◌, ◌≤◌, Bool, true, false, List, length, max, min, refl, sym, ◌∙◌, ap, arith}
use mir.Val.{bool_byte}
use Rattle.std.specs.Int.{bit_at}
use Rattle.std.specs.Int.Bits.{bit_and, bit_or}
use Rattle.std.specs.List.{slice_get}
use Rattle.std.proofs.lemmas.Nat.Bits.{bit_at-lt, bit_at-suc, bit_at-zero, bit_at_and, bit_at_lowest, bit_at_or}
use Rattle.std.proofs.lemmas.Nat.{pow_pos}
use Rattle.std.proofs.Math.Nat.{pow-succ'}
use Rattle.std.proofs.Math.Pow.{pow_mono}
use Rattle.std.proofs.lemmas.Option.{slice_get_past}
use Rattle.iam_classes.specs.Batch.{Acts}

-- a bit of a joined word is a bit of either
pub or_bits : (a b k : ℕ) → (bit_at (bit_or a b) k ≡ 1) ↔ ((bit_at a k ≡ 1) ⊎ (bit_at b k ≡ 1))
or_bits a b k = by_bits (bit_at a k) (bit_at b k) (bit_at-lt a k) (bit_at-lt b k) (bit_at_or a b k)
  where
    by_bits : (x y : ℕ) → x < 2 → y < 2 → bit_at (bit_or a b) k ≡ max x y → (bit_at (bit_or a b) k ≡ 1) ↔ ((x ≡ 1) ⊎ (y ≡ 1))
    by_bits zero zero low below is =
        ((λ one. absurd (omega (arith, one, is))), (λ h. elim h [ inl one ↦ absurd (omega (arith, one)) | inr one ↦ absurd (omega (arith, one)) ]))
    by_bits zero (suc zero) low below is = ((λ one. inr refl), (λ h. is))
    by_bits (suc zero) zero low below is = ((λ one. inl refl), (λ h. is))
    by_bits (suc zero) (suc zero) low below is = ((λ one. inl refl), (λ h. is))
    by_bits (suc (suc x)) y low below is = absurd (omega (arith, low))
    by_bits x (suc (suc y)) low below is = absurd (omega (arith, below))

-- one of what two words have in common is a bit of both
pub and_bits : (a b k : ℕ) → (bit_at (bit_and a b) k ≡ 1) ↔ ((bit_at a k ≡ 1) × (bit_at b k ≡ 1))
and_bits a b k = by_bits (bit_at a k) (bit_at b k) (bit_at-lt a k) (bit_at-lt b k) (bit_at_and a b k)
  where
    by_bits : (x y : ℕ) → x < 2 → y < 2 → bit_at (bit_and a b) k ≡ min x y → (bit_at (bit_and a b) k ≡ 1) ↔ ((x ≡ 1) × (y ≡ 1))
    by_bits zero y low below is = ((λ one. absurd (omega (arith, one, is))), (λ h. absurd (omega (arith, h.0))))
    by_bits (suc zero) zero low below is = ((λ one. absurd (omega (arith, one, is))), (λ h. absurd (omega (arith, h.1))))
    by_bits (suc zero) (suc zero) low below is = ((λ one. (refl, refl)), (λ h. is))
    by_bits (suc (suc x)) y low below is = absurd (omega (arith, low))
    by_bits (suc zero) (suc (suc y)) low below is = absurd (omega (arith, below))

-- the bits of the word say what the row does from place k on, and it is not greater than these take
pub record AreBits (row : List Bool) (k word : ℕ) : Type 0 where
  pub small : word < 2 ^ (length row - k)
  pub say : (j : ℕ) → (bit_at word j ≡ 1) ↔ Acts row (k + j)

-- behind the last there are none
pub bits_none : (row : List Bool) → AreBits row (length row) 0
bits_none row = record {
  small = pow_pos (length row - length row);
  say = λ j. (
    (λ one. absurd (omega (arith, one, bit_at-zero j))),
    (λ acts. let past = slice_get_past row (length row + j) (omega arith) in let wrong : ⊥ = cc in absurd wrong),
  );
}

-- a word one bit longer: its least bit, and the others
least : (word : ℕ) (b : Bool) → bit_at (word * 2 + bool_byte b) 0 ≡ bool_byte b
least word true = bit_at_lowest (word * 2 + 1) ∙ omega arith
least word false = bit_at_lowest (word * 2 + 0) ∙ omega arith

half : (word : ℕ) (b : Bool) → (word * 2 + bool_byte b) / 2 ≡ word
half word true = omega arith
half word false = omega arith

-- one more in front
pub bits_more : (row : List Bool) (k word : ℕ) (b : Bool) → k < length row → slice_get row k ≡ Some b → AreBits row (k + 1) word
    → AreBits row k (word * 2 + bool_byte b)
bits_more row k word b below at before = record { small = small b; say = say b at }
  where
    twice : 2 ^ (length row - k) ≡ 2 * 2 ^ (length row - (k + 1))
    twice = let e : length row - k ≡ suc (length row - (k + 1)) = omega (arith, below) in ap (λ n. 2 ^ n) e ∙ pow-succ' 2 (length row - (k + 1))

    small : (b : Bool) → word * 2 + bool_byte b < 2 ^ (length row - k)
    small true = omega (arith, twice, before.small)
    small false = omega (arith, twice, before.small)

    say : (b : Bool) → slice_get row k ≡ Some b → (j : ℕ) → (bit_at (word * 2 + bool_byte b) j ≡ 1) ↔ Acts row (k + j)
    say true is zero = let e : k + 0 ≡ k = omega arith in ((λ one. ap (slice_get row) e ∙ is), (λ acts. least word true))
    say false is zero =
        let e : k + 0 ≡ k = omega arith in (
          (λ one. let low = least word false in absurd (omega (arith, one, low))),
          (λ acts. let at_k = ap (slice_get row) e in let wrong : ⊥ = cc in absurd wrong),
        )
    say b is (suc j) =
        let e : k + suc j ≡ k + 1 + j = omega arith in
        let rest : bit_at (word * 2 + bool_byte b) (suc j) ≡ bit_at word j = bit_at-suc (word * 2 + bool_byte b) j ∙ ap (λ w. bit_at w j) (half word b) in (
          (λ one. ap (slice_get row) e ∙ (before.say j).0 (sym rest ∙ one)),
          (λ acts. rest ∙ (before.say j).1 (sym (ap (slice_get row) e) ∙ acts)),
        )

-- there is room for one more
pub room : (row : List Bool) (k word : ℕ) (b : Bool) → k < length row → length row ≤ 64 → AreBits row (k + 1) word
    → word * 2 + bool_byte b < 2 ^ 64
room row k word b below few before = by_bit b
  where
    enough : 2 ^ (length row - (k + 1)) ≤ 2 ^ 63
    enough = let e : length row - (k + 1) ≤ 63 = omega (arith, below, few) in pow_mono e

    by_bit : (b : Bool) → word * 2 + bool_byte b < 2 ^ 64
    by_bit true = omega (arith, enough, before.small)
    by_bit false = omega (arith, enough, before.small)
