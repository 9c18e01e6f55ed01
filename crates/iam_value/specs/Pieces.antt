-- Pieces of a text. LOGIC 8.
use Rattle.std.specs.Prelude.{◌≡◌, ◌≢◌, ℕ, ◌<◌, ◌≤◌, List, ◌∷◌, ◌++◌, length, All}
use Rattle.std.specs.Fmt.{decimal}
use Rattle.std.specs.Str.Parse.{IsNumeral, digits_value}

-- the separator does not stand in the text
abbrev pub Lacks : ℕ → List ℕ → Type 0
Lacks separator text = All (λ c. c ≢ separator) text

-- the text is the front, the first separator and the back
abbrev pub IsCutAt : ℕ → List ℕ → List ℕ → List ℕ → Type 0
IsCutAt separator text front back = (text ≡ front ++ separator ∷ back) × Lacks separator front

-- decimal digits, one to nine of them, and the number that they write
abbrev pub IsNumber : List ℕ → ℕ → Type 0
IsNumber text n = IsNumeral 10 text × (length text ≤ 9) × (n ≡ digits_value 10 text)

-- a decimal number of 0 to 255 without leading zeros
abbrev pub IsOctet : List ℕ → ℕ → Type 0
IsOctet text n = (n < 256) × (text ≡ decimal n)
