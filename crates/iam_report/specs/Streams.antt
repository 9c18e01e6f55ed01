-- What a writer gains of a text. `None` stands where a writer does not say which bytes it holds, and nothing is claimed
-- of it. LOGIC 13.5.
use Rattle.std.specs.Prelude.{Option, ℕ, ◌≤◌, List, length, take}
use Rattle.std.specs.Io.KnownBytes.{Appends}

-- a writer gained the first bytes of a text, and no others
abbrev pub AppendsBeginning : Option (List ℕ) → Option (List ℕ) → List ℕ → Type 0
AppendsBeginning old new text = (n : ℕ) × (n ≤ length text) × Appends old new (take n text)
