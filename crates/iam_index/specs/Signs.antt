-- Numbers that are kept under a class and a signature. LOGIC 1.1.
use Rattle.std.specs.Prelude.{◌≡◌, ◌⊎◌, ℕ, List, Option, Some}
use Rattle.iam_columns.specs.Slots.{Keeps}
use Rattle.iam_index.specs.declared.signs.Sign.{Sign}

-- there is a signature, and some slot keeps the number under it and the class
abbrev pub HasSign : List (Option Sign) → ℕ → Option ℕ → ℕ → Type 0
HasSign signs class word number =
    (slot : ℕ) × (sign : Sign) × Keeps signs slot sign × (sign.class ≡ class) × (word ≡ Some sign.word) × (sign.number ≡ number)

-- nothing more is kept, but the number under the class and the signature, if there is one
abbrev pub GainsSign : List (Option Sign) → List (Option Sign) → ℕ → Option ℕ → ℕ → Type 0
GainsSign old new class word number =
    (slot : ℕ) (sign : Sign) → Keeps new slot sign
    → ((sign.class ≡ class) × (word ≡ Some sign.word) × (sign.number ≡ number)) ⊎ Keeps old slot sign
