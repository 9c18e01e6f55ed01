-- The front of a row: a number between texts, in bytes that are used again.
use Rattle.std.specs.Prelude.{◌≡◌, ◌+◌, ◌-◌, ◌≤◌, ℕ, List, ◌++◌, drop, length, take}

-- what callers see of a front
pub record FrontValue : Type 0 where
  pub before : List ℕ
  pub number : List ℕ
  pub behind : List ℕ

-- the bytes from one place up to another
abbrev pub between : List ℕ → ℕ → ℕ → List ℕ
between bytes from to = take (to - from) (drop from bytes)

-- behind room for a number, which begins and ends at these places, and the text behind it ends here
abbrev pub front_of_bytes : List ℕ → ℕ → ℕ → ℕ → FrontValue
front_of_bytes bytes start stop end = record { before = between bytes 20 start; number = between bytes start stop; behind = between bytes stop end }

-- the places follow one another
pub record IsOrdered (start stop end : ℕ) : Type 0 where
  pub least : 20 ≤ start
  pub number : start ≤ stop
  pub behind : stop ≤ end
  pub most : end ≤ 1024

-- a text was put behind what stands before a place, and ends here
pub record IsPut (old new : List ℕ) (at : ℕ) (text : List ℕ) (end : ℕ) : Type 0 where
  pub most : end ≤ 1024
  pub end_is : end ≡ at + length text
  pub bytes : take end new ≡ take at old ++ text
