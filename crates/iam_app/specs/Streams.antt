-- What reading all input does to the bytes that a reader has left. `None` stands where a reader does not say which bytes
-- these are, and nothing is claimed of it. LOGIC 13.5.
use Rattle.std.specs.Prelude.{Option, ◌≡◌, ℕ, ◌<◌, ◌≤◌, List, [], ◌++◌, length, ⊤, Some, None}
use Rattle.std.specs.Io.KnownBytes.{Consumes}

-- the bytes that remained are these
abbrev pub AllRemained : Option (List ℕ) → List ℕ → Type 0
AllRemained None bytes = ⊤
AllRemained (Some remained) bytes = bytes ≡ remained

-- more bytes remained than this
abbrev pub MoreRemained : Option (List ℕ) → ℕ → Type 0
MoreRemained None most = ⊤
MoreRemained (Some remained) most = most < length remained

-- a reader lost its first bytes, at most this many, and no others
abbrev pub ConsumesAtMost : Option (List ℕ) → Option (List ℕ) → ℕ → Type 0
ConsumesAtMost old new most = (bytes : List ℕ) × (length bytes ≤ most) × Consumes old new bytes

-- a reader lost at least one byte, and these bytes were kept
abbrev pub ReadsSome : Option (List ℕ) → Option (List ℕ) → List ℕ → List ℕ → Type 0
ReadsSome old new kept_old kept_new =
    (bytes : List ℕ) × (0 < length bytes) × (kept_new ≡ kept_old ++ bytes) × Consumes old new bytes

-- a reader had no byte left, and nothing more was kept
abbrev pub IsEnd : Option (List ℕ) → Option (List ℕ) → List ℕ → List ℕ → Type 0
IsEnd old new kept_old kept_new = (kept_new ≡ kept_old) × AllRemained old [] × Consumes old new []
