-- That requests have one report, and what it has in common with that of the matrix. LOGIC 13.8.
use Rattle.std.specs.Prelude.{◌≡◌, ◌↔◌, ℕ, Bool, List, [], Some, length}
use Rattle.std.specs.List.{slice_get}
use Rattle.iam_decision.specs.declared.verdict.Decision.{Decision}
use Rattle.iam_decision.specs.declared.verdict.Verdict.{Verdict}
use Rattle.iam_layers.specs.Cell.{IsCell, IsDecisionOf, IsVerdictOf}
use Rattle.iam_world.specs.World.{WorldValue, world_cells}
use Rattle.iam_row.specs.declared.quoted.Format.{Format}
use Rattle.iam_matrix.specs.Report.{IsMatrixReport}
use Rattle.iam_asked.specs.Request.{AskedValue, RequestsValue}
use Rattle.iam_ask.specs.Report.{IsAskReport, IsDecisionOn, IsVerdictOn}

-- requests have at most one report
abbrev pub OneAskReport : Type 0
OneAskReport =
    (format : Format) (brief : Bool) (requests : RequestsValue) (text other : List ℕ)
    → IsAskReport format brief requests text → IsAskReport format brief requests other → text ≡ other

-- the request with these numbers that gives no keys of its own
abbrev pub plain : ℕ → ℕ → ℕ → AskedValue
plain p a r = record { principal = p; action = a; resource = r; own = [] }

-- it has the verdict of its cell, and its decision
abbrev pub JudgesAsItsCell : Type 0
JudgesAsItsCell =
    (world : WorldValue) (cell p a r : ℕ) (verdict : Verdict) → IsCell world cell p a r
    → IsVerdictOn world (plain p a r) verdict ↔ IsVerdictOf world cell verdict

abbrev pub DecidesAsItsCell : Type 0
DecidesAsItsCell =
    (world : WorldValue) (cell p a r : ℕ) (decision : Decision) → IsCell world cell p a r
    → IsDecisionOn world (plain p a r) decision ↔ IsDecisionOf world cell decision

-- the requests of all cells, in their order, which give no keys of their own
pub record AsksAllCells (requests : RequestsValue) : Type 0 where
  pub count : length requests.asked ≡ world_cells requests.world
  pub each : (cell p a r : ℕ) → IsCell requests.world cell p a r → slice_get requests.asked cell ≡ Some (plain p a r)

-- the report of the matrix is theirs
abbrev pub AllCellsGiveTheMatrix : Type 0
AllCellsGiveTheMatrix =
    (format : Format) (brief : Bool) (requests : RequestsValue) (text : List ℕ) → AsksAllCells requests
    → IsMatrixReport format brief requests.world text → IsAskReport format brief requests text
