-- How many workers a matrix may have. LOGIC 11.7.
use Rattle.std.specs.Prelude.{◌≡◌, ◌⊎◌, ◌<◌, ℕ}

-- no worker, or over 64
abbrev pub IsUnlawful : ℕ → Type 0
IsUnlawful workers = (workers ≡ 0) ⊎ (64 < workers)
