-- That a world has one matrix, one first allowed cell, and one report of each. LOGIC 11.6, 11.8, 13.1 and 13.2.
use Rattle.std.specs.Prelude.{◌≡◌, ℕ, Bool, List, Option}
use Rattle.iam_world.specs.World.{WorldValue}
use Rattle.iam_row.specs.declared.quoted.Format.{Format}
use Rattle.iam_matrix.specs.Matrix.{IsFirstAllowed, IsMatrix}
use Rattle.iam_matrix.specs.Report.{IsFirstReport, IsMatrixReport}

-- of verdicts, or of decisions
abbrev pub OneMatrix : {X : Type 0} → (WorldValue → ℕ → X → Type 0) → Type 0
OneMatrix {X} Is = (world : WorldValue) (entries others : List X) → IsMatrix Is world entries → IsMatrix Is world others → entries ≡ others

abbrev pub OneFirst : Type 0
OneFirst = (world : WorldValue) (first other : Option ℕ) → IsFirstAllowed world first → IsFirstAllowed world other → first ≡ other

abbrev pub OneReport : Type 0
OneReport =
    (format : Format) (brief : Bool) (world : WorldValue) (text other : List ℕ)
    → IsMatrixReport format brief world text → IsMatrixReport format brief world other → text ≡ other

abbrev pub OneFirstReport : Type 0
OneFirstReport = (world : WorldValue) (text other : List ℕ) → IsFirstReport world text → IsFirstReport world other → text ≡ other
