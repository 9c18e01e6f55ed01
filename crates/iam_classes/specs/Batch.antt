-- Several actions at once: each statement that requests share has a row, which says of each action whether the statement
-- acts on it, and what holds of the requests for up to 64 of the actions is said by the bits of one word. LOGIC 11.1, 11.2.
use Rattle.std.specs.Prelude.{◌≡◌, ◌⊎◌, ◌↔◌, ◌+◌, ◌<◌, ℕ, Bool, true, false, List, [], ◌∷◌, All, Some, length, map}
use Rattle.std.specs.Borrow.{Bor}
use Rattle.std.specs.Int.{bit_at}
use Rattle.std.specs.List.{slice_get}
use Rattle.iam_decision.specs.Code.Found.{AllowsIn, DeniesIn, GrantsIn}
use Rattle.iam_decision.specs.Decision.{IsAllowed}
use Rattle.iam_decision.specs.declared.frame.Frame.{Frame}
use Rattle.iam_decision.specs.declared.living.Living.{Living}
use Rattle.iam_decision.specs.declared.living.Matched.{Matched}
use Rattle.iam_classes.specs.declared.lanes.Decided.{Decided}

-- what is kept of the living statements
abbrev pub matched_of : List Living → List Matched
matched_of living = map (λ l. l.matched) living

-- the statement with this row acts on action a
abbrev pub Acts : List Bool → ℕ → Type 0
Acts row a = slice_get row a ≡ Some true

-- these are the statements that act on action a, in order; each statement has a row
abbrev pub AreFoundIn : List Matched → List (Bor (List Bool)) → ℕ → List Matched → Type 0
AreFoundIn [] [] a found = found ≡ []
AreFoundIn [] (row ∷ rows) a found = ⊥
AreFoundIn (statement ∷ statements) [] a found = ⊥
AreFoundIn (statement ∷ statements) (row ∷ rows) a found =
    (Acts row.now a × ((rest : List Matched) × (found ≡ statement ∷ rest) × AreFoundIn statements rows a rest))
    ⊎ ((slice_get row.now a ≡ Some false) × AreFoundIn statements rows a found)

-- where the rows of statements reach to an action, those that act on it can be found
abbrev pub RowsFind : Type 0
RowsFind =
    (statements : List Matched) (rows : List (Bor (List Bool))) (a : ℕ) → length rows ≡ length statements
    → All (λ row. a < length row.now) rows → (found : List Matched) × AreFoundIn statements rows a found

-- the first bits of the word are what the row says of these actions
abbrev pub IsWord : List Bool → ℕ → ℕ → ℕ → Type 0
IsWord row from count word = (k : ℕ) → k < count → (bit_at word k ≡ 1) ↔ Acts row (from + k)

-- bit k of the word says whether it holds
abbrev pub IsLane : ℕ → ℕ → Type 0 → Type 0
IsLane word k holds = (bit_at word k ≡ 1) ↔ holds

-- each of the first bits of the word says whether it holds of the statements that act on its action
abbrev pub AreLanes : List Matched → List (Bor (List Bool)) → ℕ → ℕ → ℕ → (List Matched → Type 0) → Type 0
AreLanes statements rows from count lanes holds =
    (k : ℕ) (found : List Matched) → k < count → AreFoundIn statements rows (from + k) found → IsLane lanes k (holds found)

-- what is decided of these actions
pub record AreDecided (frame : Frame) (statements : List Matched) (rows : List (Bor (List Bool))) (from count : ℕ)
    (decided : Decided) : Type 0 where
  pub denied : AreLanes statements rows from count decided.denied DeniesIn
  pub allowed : AreLanes statements rows from count decided.allowed
      (λ found. IsAllowed (AllowsIn found) (GrantsIn found) frame)
