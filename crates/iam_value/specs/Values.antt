-- The values of texts: whole numbers in decimal, truth values, and bytes in base64. A numeral is one or more ASCII
-- digits, and its value the sum of their places. LOGIC 8.1, 8.2 and 8.4.
use Rattle.std.specs.Prelude.{◌≡◌, ◌⊎◌, ℕ, List, ◌∷◌, Bool, true, false, map, codes, ℤ, pos, neg_ℤ, FitsSigned}
use Rattle.std.specs.Char.{to_ascii_lowercase}
use Rattle.std.specs.Int.{w64}
use Rattle.std.specs.Str.Parse.{IsNumeral, digits_value}
use Rattle.base64.specs.Engines.{standard}
use Rattle.base64.specs.GeneralPurpose.{encode_of, IsBytes}

-- decimal digits, leading zeros among them, or `-`, which is 45, and the digits of the number's opposite; a number of 64 bits with a sign
abbrev pub IsWhole : List ℕ → ℤ → Type 0
IsWhole text value =
    FitsSigned w64 value
    × ((digits : List ℕ) × IsNumeral 10 digits
    × (((text ≡ digits) × (value ≡ pos (digits_value 10 digits)))
    ⊎ ((text ≡ 45 ∷ digits) × (value ≡ neg_ℤ (pos (digits_value 10 digits))))))

-- the name of a truth value
abbrev pub truth_name : Bool → List ℕ
truth_name true = codes "true"
truth_name false = codes "false"

-- the text is `true` or `false`, but for the case of its letters
abbrev pub IsTruth : List ℕ → Bool → Type 0
IsTruth text value = map to_ascii_lowercase text ≡ truth_name value

-- the text encodes the bytes, with padding (RFC 4648 section 4)
abbrev pub IsBase64 : List ℕ → List ℕ → Type 0
IsBase64 text bytes = IsBytes bytes × (text ≡ encode_of standard bytes)
