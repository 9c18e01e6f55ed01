-- Decimal numbers without leading zeros.
use Rattle.std.proofs.Common.{◌≡◌, ◌≢◌, ℕ, ◌<◌, ◌≤◌, List, length, get_or, sym, ap, subst, ◌∙◌, ⊎_elim, arith}
use Rattle.std.specs.Int.{IsInRange}
use Rattle.std.specs.Fmt.{decimal}
use Rattle.std.specs.Str.Parse.{AllDigits}
use Rattle.std.proofs.lemmas.Bool.{cases_lt}
use Rattle.std.proofs.lemmas.Fmt.{decimal_is_IsNumeral, decimal_digit, length-decimal-le, first_decimal, decimal-digits_value}
use Rattle.std.proofs.lemmas.Str.Parse.{numerals_by_value, tells_digits}
use Rattle.iam_value.specs.Pieces.{IsNumber, IsOctet, Lacks}
use Rattle.iam_value.proofs.Cuts.{digits_lack}

-- such a number is a numeral of at most nine digits
pub octet_number : (text : List ℕ) (n : ℕ) → IsOctet text n → IsNumber text n
octet_number text n is =
    let read = decimal_is_IsNumeral n (omega arith) in
    let short : length (decimal n) ≤ 9 = length-decimal-le 9 n (omega arith) (omega arith) (omega arith) in
    subst (λ (t : List ℕ). IsNumber t n) (sym is.1) (read.0, short, sym read.1)

-- it has no leading zero
pub octet_first : (text : List ℕ) (n : ℕ) → IsOctet text n → 1 < length text → get_or text 0 0 ≢ 48
octet_first text n is long first = ⊎_elim
    (λ positive. absurd (omega (arith, first_decimal n positive (omega arith), rw is.1 at first)))
    (λ none. let e : n ≡ 0 = omega arith in let one = ap length (is.1 ∙ ap decimal e ∙ decimal_digit 0 (omega arith)) in omega (arith, one))
    (cases_lt 0 n)

-- a numeral without leading zeros is what `decimal` writes of its number
pub octet_from_digits : (text : List ℕ) (n : ℕ) → IsNumber text n → (get_or text 0 0 ≡ 48 → length text ≡ 1) → n < 256 → IsOctet text n
octet_from_digits text n is first small =
    (small, sym (ap decimal is.2 ∙ decimal-digits_value (numerals_by_value (AllDigits 10) tells_digits) text is.0.1 is.0.0 first (omega (arith, is.2))))

-- it is written in digits
pub octet_lacks : (d : ℕ) (text : List ℕ) (n : ℕ) → ¬ (IsInRange 48 57 d) → IsOctet text n → Lacks d text
octet_lacks d text n outside is = digits_lack d text (octet_number text n is).0.1 outside
