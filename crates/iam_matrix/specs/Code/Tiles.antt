-- What the workers make of a tile, and of tiles that follow one another.
use Rattle.std.specs.Prelude.{◌≡◌, ℕ, ◌+◌, ◌<◌, ◌≤◌, List, [], ◌∷◌, ◌++◌, ⊤, Bool, Option, Some, None, MatchBool, length, map, sum}
use Rattle.iam_decision.specs.declared.verdict.Decision.TheVariants.{Allowed}
use Rattle.iam_row.specs.Piece.{brief_tail, full_tail}
use Rattle.iam_row.specs.declared.quoted.Format.{Format}
use Rattle.iam_row.specs.declared.tail.Tail.{Tail}
use Rattle.iam_world.specs.World.{WorldValue, world_cells}
use Rattle.iam_lanes.specs.Lanes.{no_cell}
use Rattle.iam_layers.specs.Cell.{IsCell, IsDecisionOf, IsVerdictOf}
use Rattle.iam_matrix.specs.Matrix.{AreEntriesFrom, IsNotAllowed}

-- the cut has this tile, and is one of the world's cells
abbrev pub IsTileOf : WorldValue → List ℕ → ℕ → Type 0
IsTileOf world lengths tile = (sum lengths ≡ world_cells world) × (tile < length lengths)

-- entries of so many cells from this one on, each as it has to be
pub record AreEntries {X : Type 0} (Is : ℕ → X → Type 0) (from count : ℕ) (entries : List X) : Type 0 where
  pub count_is : length entries ≡ count
  pub each : AreEntriesFrom Is from entries

-- it is said of a cell what has to be said of its request
abbrev pub IsOf : {X : Type 0} → (WorldValue → ℕ → ℕ → ℕ → X → Type 0) → WorldValue → ℕ → X → Type 0
IsOf Is world cell entry = (p : ℕ) × (a : ℕ) × (r : ℕ) × IsCell world cell p a r × Is world p a r entry

-- so many more are said, of what follows from this on
abbrev pub Adds : {X : Type 0} → (ℕ → X → Type 0) → ℕ → ℕ → List X → List X → Type 0
Adds {X} Is from count old new = (more : List X) × (new ≡ old ++ more) × AreEntries Is from count more

-- the tails of the rows of the entries of these cells
abbrev pub AreTails : {X : Type 0} → (ℕ → X → Type 0) → (X → Tail) → ℕ → ℕ → List Tail → Type 0
AreTails {X} Is tail from count tails = (entries : List X) × AreEntries Is from count entries × (tails ≡ map tail entries)

abbrev pub AreTailsOf : Format → Bool → WorldValue → ℕ → ℕ → List Tail → Type 0
AreTailsOf format brief world from count tails =
    MatchBool brief (AreTails (IsDecisionOf world) (brief_tail format) from count tails)
    (AreTails (IsVerdictOf world) (full_tail format) from count tails)

-- an allowed cell that is asked about, and below all numbers that are no cells
pub record IsAllowedCell (Asked : ℕ → Type 0) (world : WorldValue) (cell : ℕ) : Type 0 where
  pub below : cell < world_cells world
  pub small : cell < no_cell
  pub asked : Asked cell
  pub allowed : IsDecisionOf world cell Allowed

-- no cell of these that is below a bound and asked about is allowed
abbrev pub AreNotAllowedBelow : (ℕ → Type 0) → WorldValue → ℕ → ℕ → ℕ → Type 0
AreNotAllowedBelow Asked world from count bound =
    (cell : ℕ) → from ≤ cell → cell < from + count → cell < bound → Asked cell → IsNotAllowed world cell

-- the first allowed cell of these that are asked about, or nothing where none is allowed
abbrev pub IsFirstIn : (ℕ → Type 0) → WorldValue → ℕ → ℕ → Option ℕ → Type 0
IsFirstIn Asked world from count None = (cell : ℕ) → from ≤ cell → cell < from + count → Asked cell → IsNotAllowed world cell
IsFirstIn Asked world from count (Some found) =
    IsAllowedCell Asked world found × (found < from + count) × ((cell : ℕ) → from ≤ cell → cell < found → Asked cell → IsNotAllowed world cell)

-- a relation of a first cell, a number of cells and an output, for tiles that follow one another from a cell on
abbrev pub Chain : {O : Type 0} → (ℕ → ℕ → O → Type 0) → ℕ → List ℕ → List O → Type 0
Chain Makes from [] [] = ⊤
Chain Makes from [] (output ∷ outputs) = ⊥
Chain Makes from (n ∷ lengths) [] = ⊥
Chain Makes from (n ∷ lengths) (output ∷ outputs) = Makes from n output × Chain Makes (from + n) lengths outputs
