-- The first request of those that are selected of which it is not said that it is never allowed. LOGIC 13.11.
use Rattle.std.specs.Prelude.{◌≡◌, ◌≢◌, ◌<◌, ◌++◌, ℕ, List, [], ◌∷◌, Option, Some, None, true}
use Rattle.iam_layers.specs.Cell.{IsCell}
use Rattle.iam_open.specs.Asked.{AskedValue, IsSelected}
use Rattle.iam_open.specs.InQuestion.{IsNever}
use Rattle.iam_open.specs.Report.{IsRow}
use Rattle.iam_open.specs.Rows.{TurnedRow, opening_text, row_text, word_of}
use Rattle.iam_open.specs.declared.asked.Word.TheVariants.{Never}
use Rattle.iam_row.specs.declared.quoted.Format.TheVariants.{Csv}
use Rattle.iam_world.specs.World.{WorldValue, world_cells}

-- the request of the cell is allowed in none of the contexts in question
abbrev pub IsNeverAt : WorldValue → ℕ → Type 0
IsNeverAt world cell = (p : ℕ) × (a : ℕ) × (r : ℕ) × IsCell world cell p a r × IsNever (world ∷ []) world p a r

-- a cell with its row
pub record FirstRow : Type 0 where
  pub cell : ℕ
  pub row : TurnedRow

-- a cell that is selected and whose row says another word than `never`, where each lower one that is selected is never allowed; nothing
-- where each one is never allowed. What is wanted of words plays no part
abbrev pub IsFirstTurned : AskedValue → WorldValue → Option FirstRow → Type 0
IsFirstTurned asked world None = (cell : ℕ) → cell < world_cells world → IsSelected asked world cell → IsNeverAt world cell
IsFirstTurned asked world (Some first) =
    IsSelected asked world first.cell × IsRow true world first.cell first.row × (word_of first.row.turned ≢ Never)
    × ((lower : ℕ) → lower < first.cell → IsSelected asked world lower → IsNeverAt world lower)

-- the row in brief, where there is one
abbrev pub first_text : Option FirstRow → List ℕ
first_text None = []
first_text (Some first) = row_text Csv true first.cell first.row

-- the brief header, and that row
pub record IsFirstTurnedReport (asked : AskedValue) (world : WorldValue) (text : List ℕ) : Type 0 where
  pub first : Option FirstRow
  pub found : IsFirstTurned asked world first
  pub is : text ≡ opening_text Csv true ++ first_text first
