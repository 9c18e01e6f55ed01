-- Which letters a walk tries behind a text, by how far the grammar is read, what the patterns wait for, and how the named texts
-- go on. LOGIC 2.2.
use Rattle.std.specs.Prelude.{◌≡◌, ◌==◌, ◌&&◌, ◌⊎◌, ℕ, Bool, true, false, List, [], ◌∷◌, Contains, is_some, not, if◌then◌else◌}
use Rattle.std.specs.List.{list_any}
use Rattle.std.specs.Char.{IsScalar}
use Rattle.iam_kinds.specs.Code.{next_stage}
use Rattle.iam_kinds.specs.Spelled.{IsFirst}
use Rattle.iam_kinds.specs.declared.grammar.Stage.{Stage}

abbrev pub is_waited : List ℕ → ℕ → Bool
is_waited waited c = list_any (λ d. d == c) waited

-- the grammar goes on with the letter and nothing waits for it
abbrev pub is_other : Stage → List ℕ → ℕ → Bool
is_other stage waited c = is_some (next_stage stage c) && not (is_waited waited c)

abbrev pub begins_with : ℕ → List ℕ → Bool
begins_with c [] = false
begins_with c (d ∷ text) = d == c

-- some named text goes on with the letter
abbrev pub goes_on : List (List ℕ) → ℕ → Bool
goes_on tails c = list_any (begins_with c) tails

-- it is an other letter with which no named text goes on
abbrev pub is_free : Stage → List ℕ → List (List ℕ) → ℕ → Bool
is_free stage waited tails c = is_other stage waited c && not (goes_on tails c)

-- a character that is such a letter
abbrev pub IsOtherAt : Stage → List ℕ → ℕ → Type 0
IsOtherAt stage waited c = IsScalar c × (is_other stage waited c ≡ true)

abbrev pub IsFreeAt : Stage → List ℕ → List (List ℕ) → ℕ → Type 0
IsFreeAt stage waited tails c = IsScalar c × (is_free stage waited tails c ≡ true)

-- the letter is tried though nothing waits for it: it is the first free one, or none is free
abbrev pub IsAdded : Stage → List ℕ → List (List ℕ) → ℕ → Type 0
IsAdded stage waited tails c =
    IsFirst (IsFreeAt stage waited tails) c ⊎ (((d : ℕ) → ¬ IsFreeAt stage waited tails d) × IsOtherAt stage waited c)

-- one of the letters is a free one
abbrev pub HasFree : Stage → List ℕ → List (List ℕ) → List ℕ → Type 0
HasFree stage waited tails letters = (o : ℕ) × Contains letters o × (is_free stage waited tails o ≡ true)

-- the letter is one of those, or nothing waits for it and a free one is
abbrev pub Stands : Stage → List ℕ → List (List ℕ) → List ℕ → ℕ → Type 0
Stands stage waited tails letters c =
    Contains letters c ⊎ ((is_waited waited c ≡ false) × HasFree stage waited tails letters)

-- what is left of the named texts that go on with the letter
abbrev pub tails_of : ℕ → List (List ℕ) → List (List ℕ)
tails_of c [] = []
tails_of c ([] ∷ tails) = tails_of c tails
tails_of c ((d ∷ text) ∷ tails) = if d == c then (text ∷ tails_of c tails) else tails_of c tails
