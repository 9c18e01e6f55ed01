-- The CSV text of one cell of a world: the header, and then its row. LOGIC 13.1.
use Rattle.std.specs.Prelude.{◌≡◌, ℕ, List, ◌++◌}
use Rattle.iam_world.specs.World.{WorldValue}
use Rattle.iam_row.specs.Report.{CellTexts, HasTexts, Layout}

-- principal p asks for action a on resource r
abbrev pub IsCsvRow : {A : Type 0} → Layout A → WorldValue → ℕ → ℕ → ℕ → ℕ → A → List ℕ → Type 0
IsCsvRow layout world cell p a r entry text =
    (texts : CellTexts) × HasTexts world p a r texts × (text ≡ layout.header ++ layout.line cell texts entry)
