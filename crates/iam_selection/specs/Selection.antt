-- What is asked of a matrix: requests are selected by their texts, and their rows are asked for by their decisions. LOGIC 13.6.
use Rattle.std.specs.Prelude.{◌≡◌, ◌⊎◌, ℕ, ◌<◌, ◌==◌, Bool, ◌&&◌, ◌||◌, if◌then◌else◌, List, [], ◌∷◌, Option, Some, None, chars}
use Rattle.iam_glob.specs.Glob.{plain_sign, wild_sign}
use Rattle.iam_glob.specs.declared.sign.Sign.{Sign}
use Rattle.iam_decision.specs.declared.verdict.Decision.{Decision}
use Rattle.iam_decision.specs.declared.verdict.Decision.TheVariants.{Allowed}
use Rattle.iam_layers.specs.Cell.{IsDecisionOf}
use Rattle.iam_world.specs.World.{WorldValue, world_cells}
use Rattle.iam_row.specs.Report.{CellTexts, IsCellTexts}
pub use Rattle.iam_row.specs.Selects.{IsMeant, SelectionValue, Selects}
use Rattle.iam_matrix.specs.Matrix.{IsNotAllowed}

-- the characters that a `\` gives: `*`, `?` and `\`
abbrev pub is_escapable : ℕ → Bool
is_escapable c = (c == 42) || ((c == 63) || (c == 92))

-- the signs of characters: a `\` gives the one behind it, where that is one of these; before any other, and at the end, it stands
-- for itself
abbrev pub signs_of : List ℕ → List Sign
signs_of [] = []
signs_of (c ∷ []) = wild_sign c ∷ []
signs_of (c ∷ d ∷ rest) =
    if (c == 92) && is_escapable d then plain_sign d ∷ signs_of rest else wild_sign c ∷ signs_of (d ∷ rest)

-- the pattern that a text is: `*` and `?` are wild, but those that are given
abbrev pub pattern_of : List ℕ → List Sign
pattern_of text = signs_of (chars text)

-- the request of the cell is selected
abbrev pub IsSelected : SelectionValue → WorldValue → ℕ → Type 0
IsSelected selection world cell = (texts : CellTexts) × IsCellTexts world cell texts × Selects selection texts

-- some request of the world is selected
abbrev pub SelectsSome : SelectionValue → WorldValue → Type 0
SelectsSome selection world = (cell : ℕ) × IsSelected selection world cell

-- rows with a decision are asked for
abbrev pub IsWanted : SelectionValue → Decision → Type 0
IsWanted selection decision = IsMeant (λ said. said ≡ decision) selection.decisions

-- the row of the cell is asked for: its request is selected, and its decision is wanted
pub record IsAsked (selection : SelectionValue) (world : WorldValue) (cell : ℕ) : Type 0 where
  pub selected : IsSelected selection world cell
  pub decision : Decision
  pub is : IsDecisionOf world cell decision
  pub wanted : IsWanted selection decision

-- it is not: its request is not selected, or its decision is not wanted
abbrev pub IsPassed : SelectionValue → WorldValue → ℕ → Type 0
IsPassed selection world cell =
    ¬ IsSelected selection world cell ⊎ ((decision : Decision) × IsDecisionOf world cell decision × ¬ IsWanted selection decision)

-- the least cell that is selected and allowed, or nothing where none is; what is wanted of decisions plays no part
abbrev pub IsFirstSelected : SelectionValue → WorldValue → Option ℕ → Type 0
IsFirstSelected selection world None =
    (cell : ℕ) → cell < world_cells world → IsSelected selection world cell → IsNotAllowed world cell
IsFirstSelected selection world (Some cell) =
    (cell < world_cells world) × IsSelected selection world cell × IsDecisionOf world cell Allowed
    × ((lower : ℕ) → lower < cell → IsSelected selection world lower → IsNotAllowed world lower)
