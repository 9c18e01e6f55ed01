-- How large the keys are that requests give themselves. LOGIC 13.8 and 15.
use Rattle.std.specs.Prelude.{◌≡◌, ◌≢◌, ◌<◌, ◌≤◌, ℕ, ◌+◌, List, [], Some, length}
use Rattle.std.specs.List.{slice_get, sum_by}
use Rattle.iam_context.specs.Context.{ContextValue}
use Rattle.iam_asked.specs.Request.{AskedValue}

-- the bytes of a text, and 64 for where it stands
abbrev pub text_size : List ℕ → ℕ
text_size text = 64 + length text

-- keys and values alike
abbrev pub own_size : ContextValue → ℕ
own_size own = sum_by (λ entry. text_size entry.0 + sum_by text_size entry.1) own

-- the keys that these requests give, those of each that gives any; what several of them give stands there once
pub record AreKeysOf (asked : List AskedValue) (keys : List ContextValue) : Type 0 where
  pub once : (i k : ℕ) (own : ContextValue) → slice_get keys i ≡ Some own → slice_get keys k ≡ Some own → i ≡ k
  pub given :
      (i : ℕ) (own : ContextValue) → slice_get keys i ≡ Some own
      → (own ≢ []) × ((n : ℕ) × (one : AskedValue) × (slice_get asked n ≡ Some one) × (one.own ≡ own))
  pub all : (n : ℕ) (one : AskedValue) → slice_get asked n ≡ Some one → one.own ≢ [] → (i : ℕ) × (slice_get keys i ≡ Some one.own)

-- how large the keys of these requests are, those that several give counted once
abbrev pub IsSizeOf : List AskedValue → ℕ → Type 0
IsSizeOf asked size = (keys : List ContextValue) × AreKeysOf asked keys × (size ≡ sum_by own_size keys)

-- they are not too large
abbrev pub AreSmall : List AskedValue → Type 0
AreSmall asked = (size : ℕ) × IsSizeOf asked size × (size ≤ 67108864)

-- they are too large
abbrev pub AreLarge : List AskedValue → Type 0
AreLarge asked = (size : ℕ) × IsSizeOf asked size × (67108864 < size)
