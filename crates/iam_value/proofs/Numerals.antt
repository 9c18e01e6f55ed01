-- Digits: one more of them, and each of them.
use Rattle.std.proofs.Common.{◌≡◌, ℕ, zero, suc, ◌+◌, ◌*◌, ◌-◌, ◌^◌, ◌<◌, ◌≤◌, List, [], ◌∷◌, length, get_or, take, arith}
use Rattle.std.proofs.Math.Nat.{pow-le-pow_right, one-le-pow}
use Rattle.std.proofs.lemmas.Nat.{mul-add-lt, pow-add}
use Rattle.std.proofs.lemmas.List.{length-take-le}
use Rattle.std.proofs.lemmas.Int.Digits.{digits_value-lt}
use Rattle.std.specs.Char.{digit_value}
use Rattle.std.specs.Str.Parse.{AllDigits, digits_value}

-- the digits so far, and one more
pub next_below : (bytes : List ℕ) (i value digit : ℕ) → length bytes ≤ 9 → i < length bytes → AllDigits 10 (take i bytes) → value ≡ digits_value 10 (take i bytes) → digit < 10 → value * 10 + digit < 10 ^ 9
next_below bytes i value digit short inside all is below =
    let len : length (take i bytes) ≡ i = length-take-le i bytes (omega arith) in
    let small : digits_value 10 (take i bytes) < 10 ^ i = rw len at (digits_value-lt 10 (take i bytes) all) in
    let up : i ≤ 8 = omega arith in
    let more : 10 ^ i ≤ 10 ^ 8 = pow-le-pow_right (omega arith) up in
    omega (arith, is, small, more)

-- each byte of a numeral is a digit
pub digit_within : (radix : ℕ) (bytes : List ℕ) (i : ℕ) → AllDigits radix bytes → i < length bytes → digit_value (get_or bytes i 0) < radix
digit_within radix [] i all inside = absurd (omega arith)
digit_within radix (c ∷ cs) zero all inside = all.0
digit_within radix (c ∷ cs) (suc i) all inside = digit_within radix cs i all.1 (omega arith)

-- a fraction of at most nine digits is less than a second, in nanoseconds
pub fraction_below : (digits : List ℕ) → AllDigits 10 digits → length digits ≤ 9 → digits_value 10 digits * 10 ^ (9 - length digits) < 1_000_000_000
fraction_below digits all short =
    let small = digits_value-lt 10 digits all in
    let some : 1 ≤ 10 ^ (9 - length digits) = one-le-pow (9 - length digits) 10 (omega arith) in
    let product = mul-add-lt (digits_value 10 digits) (10 ^ (9 - length digits)) 0 (10 ^ length digits) small (omega (arith, some)) in
    let power = pow-add 10 (9 - length digits) (length digits) in
    let nine : 9 - length digits + length digits ≡ 9 = omega arith in
    let whole = rw nine at power in
    omega (arith, product, whole)
