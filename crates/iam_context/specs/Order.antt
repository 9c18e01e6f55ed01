-- The order in which the keys of a context are kept, without regard to case. LOGIC 9.2.
use Rattle.std.specs.Prelude.{ℕ, List, map, reverse}
use Rattle.std.specs.Char.{to_ascii_lowercase}

-- a key from its end, once the letters A to Z are folded
abbrev pub backwards : List ℕ → List ℕ
backwards key = reverse (map to_ascii_lowercase key)
