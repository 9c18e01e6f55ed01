-- What a reader owes: the value that a text has, and none only where it has no value. LOGIC 8.
use Rattle.std.specs.Prelude.{◌≡◌, Option, Some, MatchOption}

-- `Some v`: v is such a value; `None`: nothing is
abbrev pub IsReading : {A : Type 0} → Option A → (A → Type 0) → Type 0
IsReading {A} answer IsValue = MatchOption answer ((v : A) → ¬ (IsValue v)) IsValue

-- each such value is the answer, so there is one at most
abbrev pub IsOnly : {A : Type 0} → Option A → (A → Type 0) → Type 0
IsOnly {A} answer IsValue = (v : A) → IsValue v → answer ≡ Some v
