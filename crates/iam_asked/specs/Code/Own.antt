-- Keys of requests as a hash and a comparison see them.
use Rattle.std.specs.Prelude.{ℕ, Bool, List, nat_eq, ◌++◌}
use Rattle.std.specs.Cmp.Lexicographic.{pointwise}
use Rattle.std.specs.Hash as fed
use Rattle.std.specs.Ordering.{eq_of_both, on}

-- the same key with the same values
abbrev pub same_entry : List ℕ × List (List ℕ) → List ℕ × List (List ℕ) → Bool
same_entry = eq_of_both (on (λ entry. entry.0) (pointwise nat_eq)) (on (λ entry. entry.1) (pointwise (pointwise nat_eq)))

-- what a hash is fed with of an entry
abbrev pub fed_entry : List ℕ × List (List ℕ) → List (List ℕ)
fed_entry entry = fed.str entry.0 ++ fed.slice fed.str entry.1
