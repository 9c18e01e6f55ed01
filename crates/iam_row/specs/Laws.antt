-- That the entries of all cells have one report, and a cell one row. LOGIC 13.1 and 13.2.
use Rattle.std.specs.Prelude.{◌≡◌, ℕ, List, length}
use Rattle.iam_world.specs.World.{WorldValue, world_cells}
use Rattle.iam_row.specs.CsvRow.{IsCsvRow}
use Rattle.iam_row.specs.Report.{IsReport, Layout}
use Rattle.iam_row.specs.declared.quoted.Format.{Format}

-- the entries of all cells have one report in a format
abbrev pub OneText : {A : Type 0} → Layout A → Type 0
OneText {A} layout =
    (format : Format) (world : WorldValue) (entries : List A) (text other : List ℕ) → length entries ≡ world_cells world
    → IsReport layout format world entries text → IsReport layout format world entries other → text ≡ other

-- an entry of a cell has one row, with its header
abbrev pub OneRow : {A : Type 0} → Layout A → Type 0
OneRow {A} layout =
    (world : WorldValue) (cell p a r : ℕ) (entry : A) (text other : List ℕ)
    → IsCsvRow layout world cell p a r entry text → IsCsvRow layout world cell p a r entry other → text ≡ other
