-- That there is one report of what is asked, that its rows are those of the report of all, that asking nothing gives the report of
-- all, and that each text has a pattern of its own. LOGIC 13.6.
use Rattle.std.specs.Prelude.{◌≡◌, ◌≢◌, ◌↔◌, ℕ, ◌<◌, All, Bool, if◌then◌else◌, List, [], ◌∷◌, Some, length, map}
use Rattle.std.specs.List.{slice_get}
use Rattle.iam_glob.specs.Glob.{Matches, wild_sign}
use Rattle.iam_layers.specs.Cell.{IsDecisionOf, IsVerdictOf}
use Rattle.iam_world.specs.World.{WorldValue}
use Rattle.iam_row.specs.Report.{AreRowsFrom, CellTexts, brief_layout, full_layout}
use Rattle.iam_row.specs.declared.quoted.Format.{Format}
use Rattle.iam_matrix.specs.Matrix.{AreEntriesFrom}
use Rattle.iam_matrix.specs.Report.{IsFirstReport, IsMatrixReport}
use Rattle.iam_selection.specs.Report.{IsFirstSelectedReport, IsRowOf, IsSelectedReport}
use Rattle.iam_selection.specs.Selection.{SelectionValue, is_escapable, signs_of}

abbrev pub OneSelectedReport : Type 0
OneSelectedReport =
    (format : Format) (brief : Bool) (selection : SelectionValue) (world : WorldValue) (text other : List ℕ)
    → IsSelectedReport format brief selection world text → IsSelectedReport format brief selection world other → text ≡ other

abbrev pub OneFirstSelectedReport : Type 0
OneFirstSelectedReport =
    (selection : SelectionValue) (world : WorldValue) (text other : List ℕ)
    → IsFirstSelectedReport selection world text → IsFirstSelectedReport selection world other → text ≡ other

-- the row of a cell is the one that the cell has among the rows of all
abbrev pub StandsInAll : {X B : Type 0} → (WorldValue → ℕ → X → Type 0) → (ℕ → CellTexts → X → B) → Type 0
StandsInAll {X} {B} Is row =
    (world : WorldValue) (entries : List X) (all : List B) (cell : ℕ) (made : B)
    → AreEntriesFrom (Is world) 0 entries → AreRowsFrom world row 0 entries all → cell < length entries → IsRowOf world (Is world) row cell made
    → slice_get all cell ≡ Some made

-- so it is of lines and of objects, in full and in brief
pub record EachStandsInAll : Type 0 where
  pub lines : StandsInAll IsVerdictOf full_layout.line
  pub brief_lines : StandsInAll IsDecisionOf brief_layout.line
  pub objects : StandsInAll IsVerdictOf full_layout.object
  pub brief_objects : StandsInAll IsDecisionOf brief_layout.object

-- a selection that says nothing
abbrev pub nothing : SelectionValue
nothing = record { principals = []; actions = []; resources = []; decisions = [] }

-- where nothing is said, the report is that of all cells, and the first cell that is selected and allowed is the first of all
abbrev pub NothingSelectsAll : Type 0
NothingSelectsAll =
    (format : Format) (brief : Bool) (world : WorldValue) (text : List ℕ)
    → IsSelectedReport format brief nothing world text → IsMatrixReport format brief world text

abbrev pub NothingSelectsFirst : Type 0
NothingSelectsFirst = (world : WorldValue) (text : List ℕ) → IsFirstSelectedReport nothing world text → IsFirstReport world text

-- a text with a `\` before each character that a `\` gives
abbrev pub escaped : List ℕ → List ℕ
escaped [] = []
escaped (c ∷ text) = if is_escapable c then 92 ∷ c ∷ escaped text else c ∷ escaped text

-- the pattern that is so written is matched by that text alone
abbrev pub EachTextIsNamed : Type 0
EachTextIsNamed = (name text : List ℕ) → Matches (signs_of (escaped name)) text ↔ (text ≡ name)

-- where no `\` stands, a pattern is read as those of policies are
abbrev pub ReadsAsPolicies : Type 0
ReadsAsPolicies = (text : List ℕ) → All (λ c. c ≢ 92) text → signs_of text ≡ map wild_sign text
