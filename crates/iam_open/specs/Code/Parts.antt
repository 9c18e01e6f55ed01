-- The report as it is made: the rows of some cells each.
use Rattle.std.specs.Prelude.{◌≡◌, ◌++◌, ◌+◌, ◌*◌, ◌<◌, ◌≤◌, ◌≢◌, ℕ, Bool, true, List, [], ◌∷◌, Option, Some, None, String, codes, decimal, length, min, string_bytes}
use Rattle.std.specs.Global.{Global}
use Rattle.iam_open.specs.Asked.{AskedValue, IsSelected}
use Rattle.iam_open.specs.First.{IsNeverAt}
use Rattle.iam_open.specs.Report.{IsRow, IsTold}
use Rattle.iam_open.specs.Rows.{TurnedRow, opening_text, row_text, rows_text, together, word_of, word_text}
use Rattle.iam_open.specs.declared.asked.Word.{Word}
use Rattle.iam_open.specs.declared.asked.Word.TheVariants.{Never}
use Rattle.iam_open.specs.declared.first.Found.{Found}
use Rattle.iam_row.specs.Report.{AreEntriesFrom, CellTexts}
use Rattle.iam_row.specs.declared.quoted.Format.{Format}
use Rattle.iam_row.specs.declared.quoted.Format.TheVariants.{Csv, Json}
use Rattle.iam_world.specs.World.{WorldValue, world_cells}

-- the cells of a tile, where each has so many but the last
abbrev pub from_of : WorldValue → ℕ → ℕ → ℕ
from_of world each tile = min (tile * each) (world_cells world)

abbrev pub to_of : WorldValue → ℕ → ℕ → ℕ
to_of world each tile = min (from_of world each tile + each) (world_cells world)

-- the rows of the cells from one up to another, of those that have one
pub record IsPart (format : Format) (brief : Bool) (asked : AskedValue) (world : WorldValue) (from to : ℕ) (text : List ℕ) : Type 0 where
  pub told : List (Option TurnedRow)
  pub count : from + length told ≡ to
  pub each : AreEntriesFrom (IsTold brief asked world) from told
  pub is : text ≡ rows_text format brief from told

-- texts of rows, all behind this one
abbrev pub all_together : Format → List ℕ → List (String Global) → List ℕ
all_together format text [] = text
all_together format text (part ∷ parts) = all_together format (together format text (string_bytes part)) parts

-- each cell from one up to another that is selected is never allowed, as far as it is below the bound
abbrev pub AreNeverBelow : AskedValue → WorldValue → ℕ → ℕ → ℕ → Type 0
AreNeverBelow asked world from to bound =
    (cell : ℕ) → from ≤ cell → cell < to → cell < bound → IsSelected asked world cell → IsNeverAt world cell

-- the row of a cell that is selected, and of which another word than `never` is said
pub record IsOther (asked : AskedValue) (world : WorldValue) (found : Found) : Type 0 where
  pub row : TurnedRow
  pub selected : IsSelected asked world found.cell
  pub is_row : IsRow true world found.cell row
  pub other : word_of row.turned ≢ Never
  pub text : string_bytes found.text ≡ row_text Csv true found.cell row

-- the row of the first of these cells that is selected and of which another word than `never` is said
pub record IsFoundIn (asked : AskedValue) (world : WorldValue) (from to : ℕ) (found : Found) : Type 0 where
  pub more : from ≤ found.cell
  pub less : found.cell < to
  pub other : IsOther asked world found
  pub lower : AreNeverBelow asked world from to found.cell

-- the row of this cell, where it is selected and another word than `never` is said; nothing where it is not, or is never allowed
abbrev pub IsFoundHere : AskedValue → WorldValue → ℕ → Option Found → Type 0
IsFoundHere asked world cell None = IsSelected asked world cell → IsNeverAt world cell
IsFoundHere asked world cell (Some found) = (found.cell ≡ cell) × IsOther asked world found

-- or nothing where there is none
abbrev pub IsFirstIn : AskedValue → WorldValue → ℕ → ℕ → Option Found → Type 0
IsFirstIn asked world from to None = AreNeverBelow asked world from to to
IsFirstIn asked world from to (Some found) = IsFoundIn asked world from to found

-- the brief header, and the row
abbrev pub found_report : Option Found → List ℕ
found_report None = opening_text Csv true
found_report (Some found) = opening_text Csv true ++ string_bytes found.text

-- what stands in a brief row of JSON before the principal, and in one of CSV behind the resource
abbrev pub middle_text : Word → List ℕ
middle_text word = codes ",\"decision\":\"" ++ (word_text word ++ codes "\",\"principal\":")

abbrev pub back_text : Word → List ℕ
back_text word = codes "," ++ (word_text word ++ codes "\n")

-- a brief row, from texts with what stands beside them in each row
abbrev pub pieces_text : Format → ℕ → CellTexts → Word → List ℕ
pieces_text Csv cell pieces word = decimal cell ++ (pieces.principal ++ (pieces.action ++ (pieces.resource ++ back_text word)))
pieces_text Json cell pieces word =
    pieces.action ++ (decimal cell ++ (middle_text word ++ (pieces.principal ++ (pieces.resource ++ codes "}"))))

-- a comma behind rows, where there are some
abbrev pub comma_behind : List ℕ → List ℕ
comma_behind [] = []
comma_behind (c ∷ text) = codes ","
