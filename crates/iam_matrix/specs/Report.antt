-- The report of a world's matrix. LOGIC 13.1 and 13.2.
use Rattle.std.specs.Prelude.{◌≡◌, ℕ, List, Option, Some, None, Bool, MatchBool}
use Rattle.iam_decision.specs.declared.verdict.Decision.{Decision}
use Rattle.iam_decision.specs.declared.verdict.Decision.TheVariants.{Allowed}
use Rattle.iam_decision.specs.declared.verdict.Verdict.{Verdict}
use Rattle.iam_layers.specs.Cell.{IsCell, IsDecisionOf, IsVerdictOf}
use Rattle.iam_world.specs.World.{WorldValue}
use Rattle.iam_row.specs.CsvRow.{IsCsvRow}
use Rattle.iam_row.specs.Report.{IsReport, brief_layout, full_layout}
use Rattle.iam_row.specs.declared.quoted.Format.{Format}
use Rattle.iam_matrix.specs.Matrix.{IsFirstAllowed, IsMatrix}

-- the report of all verdicts, in full or in brief
abbrev pub IsMatrixReport : Format → Bool → WorldValue → List ℕ → Type 0
IsMatrixReport format brief world text =
    MatchBool brief
    ((decisions : List Decision) × IsMatrix IsDecisionOf world decisions × IsReport brief_layout format world decisions text)
    ((verdicts : List Verdict) × IsMatrix IsVerdictOf world verdicts × IsReport full_layout format world verdicts text)

-- the brief header, and the brief row of the first allowed cell where there is one
abbrev pub IsFirstText : WorldValue → Option ℕ → List ℕ → Type 0
IsFirstText world None text = text ≡ brief_layout.header
IsFirstText world (Some cell) text =
    (p : ℕ) × (a : ℕ) × (r : ℕ) × IsCell world cell p a r × IsCsvRow brief_layout world cell p a r Allowed text

abbrev pub IsFirstReport : WorldValue → List ℕ → Type 0
IsFirstReport world text = (first : Option ℕ) × IsFirstAllowed world first × IsFirstText world first text
