-- The report on the requests of a world that are asked for, whatever values the keys have that nothing gives. It names no worker. LOGIC 13.11.
use Rattle.std.specs.Prelude.{◌≡◌, ◌⊎◌, ℕ, List, [], ◌∷◌, Bool, true, false, Option, Some, None, ⊤, length}
use Rattle.iam_decision.specs.declared.place.Place.{Place}
use Rattle.iam_decision.specs.declared.verdict.Verdict.{Verdict}
use Rattle.iam_layers.specs.Cell.{IsCell, IsVerdictAt}
use Rattle.iam_open.specs.Asked.{AskedValue, IsSelected, IsWanted}
use Rattle.iam_open.specs.Hangs.{AreListedOf, HangsOn}
use Rattle.iam_open.specs.Rows.{TurnedRow, report_text, word_of}
use Rattle.iam_open.specs.Turned.{IsTurned}
use Rattle.iam_open.specs.declared.answer.Turned.{Turned}
use Rattle.iam_open.specs.declared.answer.Turned.TheVariants.{Possible}
use Rattle.iam_row.specs.Report.{AreEntriesFrom, HasTexts}
use Rattle.iam_row.specs.declared.quoted.Format.{Format}
use Rattle.iam_world.specs.World.{WorldValue, world_cells}

-- the verdict is that of the example; where there is none, that on the request as the world has it. In brief it plays no part
abbrev pub IsSaid : Bool → WorldValue → ℕ → ℕ → ℕ → Turned → Verdict → Type 0
IsSaid true world p a r turned verdict = ⊤
IsSaid false world p a r (Possible example) verdict = verdict ≡ example.verdict
IsSaid false world p a r turned verdict = IsVerdictAt world p a r verdict

-- it hangs on these keys whether the request is allowed, and on the statements at these places. In brief they play no part
abbrev pub IsHung : Bool → WorldValue → ℕ → ℕ → ℕ → Turned → List Place → List (List ℕ) → Type 0
IsHung true world p a r turned places keys = ⊤
IsHung false world p a r turned places keys = HangsOn (world ∷ []) world p a r keys × AreListedOf (world ∷ []) world p a r turned places keys

-- this is said of the request of the cell
abbrev pub IsTurnedOf : WorldValue → ℕ → Turned → Type 0
IsTurnedOf world cell turned = (p : ℕ) × (a : ℕ) × (r : ℕ) × IsCell world cell p a r × IsTurned (world ∷ []) world p a r turned

-- the row of a cell: its texts, what is said of its request, and what this hangs on
abbrev pub IsRow : Bool → WorldValue → ℕ → TurnedRow → Type 0
IsRow brief world cell row =
    (p : ℕ) × (a : ℕ) × (r : ℕ) × IsCell world cell p a r × HasTexts world p a r row.texts
    × IsTurned (world ∷ []) world p a r row.turned × IsSaid brief world p a r row.turned row.verdict
    × IsHung brief world p a r row.turned row.places row.keys

-- a cell has its row where its request is selected and the word is wanted; it has none where it is not selected, or a word that is said of
-- it is not wanted
abbrev pub IsTold : Bool → AskedValue → WorldValue → ℕ → Option TurnedRow → Type 0
IsTold brief asked world cell (Some row) = IsSelected asked world cell × IsWanted asked (word_of row.turned) × IsRow brief world cell row
IsTold brief asked world cell None =
    ¬ IsSelected asked world cell ⊎ ((turned : Turned) × IsTurnedOf world cell turned × ¬ IsWanted asked (word_of turned))

-- the report has, in the order of cells, the rows of those that have one
pub record IsTurnedReport (format : Format) (brief : Bool) (asked : AskedValue) (world : WorldValue) (text : List ℕ) : Type 0 where
  pub told : List (Option TurnedRow)
  pub count : length told ≡ world_cells world
  pub each : AreEntriesFrom (IsTold brief asked world) 0 told
  pub is : text ≡ report_text format brief told
