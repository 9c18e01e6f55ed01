-- Rows of some cells, put together from pieces: what the workers make of a tile, and the text of all.
use Rattle.std.specs.Prelude.{◌≡◌, ◌⊎◌, ◌↔◌, ℕ, List, [], ◌∷◌, ◌++◌, Some, Bool, IsTrue, MatchBool, chars, length, map}
use Rattle.std.specs.List.{AllByRecursion, flat_map, slice_get}
use Rattle.iam_glob.specs.Glob.{Matches, MatchesFold}
use Rattle.iam_decision.specs.declared.verdict.Decision.{Decision}
use Rattle.iam_decision.specs.declared.verdict.Verdict.{Verdict}
use Rattle.iam_layers.specs.Cell.{IsAction, IsDecisionOf, IsPrincipal, IsResource, IsVerdictOf, principal_text}
use Rattle.iam_world.specs.World.{WorldValue}
use Rattle.iam_row.specs.Piece.{bare, closing_text, opening_text, tail_of}
use Rattle.iam_row.specs.declared.quoted.Format.{Format}
use Rattle.iam_row.specs.declared.quoted.Quoted.{Quoted}
use Rattle.iam_row.specs.declared.tail.Tail.{Tail}
use Rattle.iam_report.specs.Code.Line.{row_behind}
use Rattle.iam_report.specs.Code.Place.{comma_of, position_in}
use Rattle.iam_tiles.specs.Code.Numbered.{no_tail}
use Rattle.iam_matrix.specs.Code.Tiles.{IsTileOf}
use Rattle.iam_selection.specs.Report.{AreAsked}
use Rattle.iam_selection.specs.Selection.{IsMeant, IsWanted, SelectionValue}

-- flags of so many, each of which tells whether something holds
pub record AreFlags (P : ℕ → Type 0) (count : ℕ) (flags : List Bool) : Type 0 where
  pub count_is : length flags ≡ count
  pub each : (i : ℕ) (flag : Bool) → slice_get flags i ≡ Some flag → IsTrue flag ↔ P i

-- principal p is meant, and so are action a and resource r
abbrev pub IsPrincipalMeant : SelectionValue → WorldValue → ℕ → Type 0
IsPrincipalMeant selection world p =
    IsPrincipal world p (λ principal. IsMeant (λ pattern. Matches pattern (chars (principal_text principal))) selection.principals)

abbrev pub IsActionMeant : SelectionValue → WorldValue → ℕ → Type 0
IsActionMeant selection world a =
    (text : List ℕ) × IsAction world a text × IsMeant (λ pattern. MatchesFold pattern (chars text)) selection.actions

abbrev pub IsResourceMeant : SelectionValue → WorldValue → ℕ → Type 0
IsResourceMeant selection world r =
    IsResource world r (λ resource. IsMeant (λ pattern. Matches pattern (chars resource.arn)) selection.resources)

-- what a picker knows: whose cells it picks, and by what
pub record PickerValue : Type 0 where
  pub world : WorldValue
  pub selection : SelectionValue

-- the cut has this tile, and is one of the cells of the picker's world, which the engines have too
abbrev pub IsPickerTile : PickerValue → WorldValue → List ℕ → ℕ → Type 0
IsPickerTile picker world lengths tile = (picker.world ≡ world) × IsTileOf world lengths tile

-- a row: its cell and its tail
pub record RowValue : Type 0 where
  pub cell : ℕ
  pub tail : Tail

-- what would stand where there is no row
abbrev pub no_row : RowValue
no_row = record { cell = 0; tail = no_tail }

-- the rows of these cells with these tails
abbrev pub rows_in : List ℕ → List Tail → List RowValue
rows_in [] tails = []
rows_in (cell ∷ cells) [] = []
rows_in (cell ∷ cells) (tail ∷ tails) = record { cell = cell; tail = tail } ∷ rows_in cells tails

-- the verdict on a cell, or in brief its decision, as a verdict without places and layers
abbrev pub IsEntryOf : Bool → WorldValue → ℕ → Verdict → Type 0
IsEntryOf brief world cell verdict =
    MatchBool brief ((decision : Decision) × IsDecisionOf world cell decision × (verdict ≡ bare decision)) (IsVerdictOf world cell verdict)

-- the row has the tail of its cell
abbrev pub IsTailed : Format → Bool → WorldValue → RowValue → Type 0
IsTailed format brief world row = (verdict : Verdict) × IsEntryOf brief world row.cell verdict × (row.tail ≡ tail_of format brief verdict)

-- the rows that are asked for of so many cells from this one on
pub record AreFound (format : Format) (brief : Bool) (selection : SelectionValue) (world : WorldValue) (from count : ℕ) (rows : List RowValue) : Type 0 where
  pub picked : AreAsked selection world from count (map (λ row. row.cell) rows)
  pub tailed : AllByRecursion (IsTailed format brief world) rows

-- a cell whose decision is asked for was added to others, with its entry; or none was
abbrev pub Adds : Bool → SelectionValue → WorldValue → ℕ → List ℕ → List ℕ → List Verdict → List Verdict → Type 0
Adds brief selection world cell cells more_cells entries more_entries =
    (decision : Decision) × IsDecisionOf world cell decision
    × ((IsWanted selection decision × (more_cells ≡ cells ++ cell ∷ [])
    × ((entry : Verdict) × IsEntryOf brief world cell entry × (more_entries ≡ entries ++ entry ∷ [])))
    ⊎ (¬ IsWanted selection decision × (more_cells ≡ cells) × (more_entries ≡ entries)))

-- a report of some cells, as it is kept: pieces, and the rows
pub record ListValue : Type 0 where
  pub quoted : Quoted
  pub brief : Bool
  pub rows : List RowValue

-- the cell of the first row, which has no comma before it
abbrev pub lead_of : List RowValue → ℕ
lead_of [] = 0
lead_of (row ∷ rows) = row.cell

-- the text of a row, where the first is of this cell
abbrev pub row_text : Quoted → ℕ → RowValue → List ℕ
row_text quoted lead row = row_behind quoted (comma_of lead row.cell) (position_in quoted row.cell) row.tail

abbrev pub rows_text : Quoted → ℕ → List RowValue → List ℕ
rows_text quoted lead rows = flat_map (row_text quoted lead) rows

-- the text of a report
abbrev pub list_text : ListValue → List ℕ
list_text list =
    opening_text list.quoted.format list.brief
    ++ (rows_text list.quoted (lead_of list.rows) list.rows ++ closing_text list.quoted.format)
