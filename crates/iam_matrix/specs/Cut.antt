-- How the cells of a matrix are cut into tiles, which follow one another. LOGIC 11.7.
use Rattle.std.specs.Prelude.{◌≡◌, ◌≢◌, ℕ, ◌/◌, ◌%◌, ◌<◌, ◌≤◌, ◌==◌, List, [], ◌∷◌, ◌++◌, All, Any, length, sum, take, replicate, if◌then◌else◌}
use Rattle.std.specs.Int.{div_ceil}
use Rattle.iam_matrix.specs.declared.cut.CutFault.{CutFault}
use Rattle.iam_matrix.specs.declared.cut.CutFault.TheVariants.{ZeroTile, WrongSum, TooMany, OutOfMemory}

-- the lengths of tiles of at least one cell each, which are all cells; there are at most 4,096 tiles
pub record IsCut (cells : ℕ) (lengths : List ℕ) : Type 0 where
  pub some : All (λ n. 1 ≤ n) lengths
  pub whole : sum lengths ≡ cells
  pub few : length lengths ≤ 4096

-- the first cell of a tile
abbrev pub start_of : List ℕ → ℕ → ℕ
start_of lengths tile = sum (take tile lengths)

-- what may be wrong with lengths for so many cells, each by itself
abbrev pub CutHas : List ℕ → ℕ → CutFault → Type 0
CutHas lengths cells ZeroTile = Any (λ n. n ≡ 0) lengths
CutHas lengths cells WrongSum = sum lengths ≢ cells
CutHas lengths cells TooMany = 4096 < length lengths
CutHas lengths cells OutOfMemory = ⊥

-- the first fault, in the order of the numbers
abbrev pub IsFirstCutFault : List ℕ → ℕ → CutFault → Type 0
IsFirstCutFault lengths cells ZeroTile = CutHas lengths cells ZeroTile
IsFirstCutFault lengths cells WrongSum = CutHas lengths cells WrongSum × ¬ CutHas lengths cells ZeroTile
IsFirstCutFault lengths cells TooMany =
    CutHas lengths cells TooMany × ¬ CutHas lengths cells ZeroTile × ¬ CutHas lengths cells WrongSum
IsFirstCutFault lengths cells OutOfMemory = ⊥

-- tiles of one length, of which the last may be shorter
abbrev pub even_lengths : ℕ → ℕ → List ℕ
even_lengths tile cells = replicate (cells / tile) tile ++ (if cells % tile == 0 then [] else (cells % tile ∷ []))

-- tiles of this length have at least one cell each, and there are at most 4,096
abbrev pub IsEvenCut : ℕ → ℕ → Type 0
IsEvenCut tile cells = (0 < tile) × (div_ceil cells tile ≤ 4096)

-- the first fault of tiles of one length: their sum is right
abbrev pub IsEvenFault : ℕ → ℕ → CutFault → Type 0
IsEvenFault tile cells ZeroTile = tile ≡ 0
IsEvenFault tile cells WrongSum = ⊥
IsEvenFault tile cells TooMany = (0 < tile) × (4096 < div_ceil cells tile)
IsEvenFault tile cells OutOfMemory = ⊥
