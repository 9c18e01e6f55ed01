-- The report of what is asked of a world's matrix: rows of the report of all cells, in their order. LOGIC 13.6.
use Rattle.std.specs.Prelude.{◌≡◌, ◌⊎◌, ℕ, zero, suc, ◌+◌, List, [], ◌∷◌, ◌++◌, Option, Bool, true, false}
use Rattle.std.specs.List.{AllZip, concat}
use Rattle.iam_layers.specs.Cell.{IsDecisionOf, IsVerdictOf}
use Rattle.iam_world.specs.World.{WorldValue, world_cells}
use Rattle.iam_row.specs.Report.{CellTexts, IsCellTexts, brief_layout, full_layout, json_text}
use Rattle.iam_row.specs.declared.quoted.Format.{Format}
use Rattle.iam_row.specs.declared.quoted.Format.TheVariants.{Csv, Json}
use Rattle.iam_matrix.specs.Report.{IsFirstText}
use Rattle.iam_selection.specs.Selection.{IsAsked, IsFirstSelected, IsPassed, SelectionValue}

-- of so many numbers from this one on, in order, those that are asked for, where the others are passed over
abbrev pub ArePicked : (ℕ → Type 0) → (ℕ → Type 0) → ℕ → ℕ → List ℕ → Type 0
ArePicked Is Passes from zero numbers = numbers ≡ []
ArePicked Is Passes from (suc n) numbers =
    (rest : List ℕ) × ArePicked Is Passes (from + 1) n rest
    × ((Is from × (numbers ≡ from ∷ rest)) ⊎ (Passes from × (numbers ≡ rest)))

-- of so many cells from this one on, those whose rows are asked for
abbrev pub AreAsked : SelectionValue → WorldValue → ℕ → ℕ → List ℕ → Type 0
AreAsked selection world from count cells = ArePicked (IsAsked selection world) (IsPassed selection world) from count cells

-- the row of a cell, with what an entry says of it
abbrev pub IsRowOf : {X B : Type 0} → WorldValue → (ℕ → X → Type 0) → (ℕ → CellTexts → X → B) → ℕ → B → Type 0
IsRowOf {X} world Is row cell made =
    (texts : CellTexts) × (entry : X) × IsCellTexts world cell texts × Is cell entry × (made ≡ row cell texts entry)

-- the text of the rows that are asked for, in the order of their cells
abbrev pub IsListing : {X B : Type 0} → SelectionValue → WorldValue → (ℕ → X → Type 0) → (ℕ → CellTexts → X → B) → (List B → List ℕ) → List ℕ → Type 0
IsListing {X} {B} selection world Is row whole text =
    (cells : List ℕ) × (rows : List B) × AreAsked selection world 0 (world_cells world) cells
    × AllZip (IsRowOf world Is row) cells rows × (text ≡ whole rows)

-- the report of the rows that are asked for, in full or in brief
abbrev pub IsSelectedReport : Format → Bool → SelectionValue → WorldValue → List ℕ → Type 0
IsSelectedReport Csv true selection world text =
    IsListing selection world (IsDecisionOf world) brief_layout.line (λ lines. brief_layout.header ++ concat lines) text
IsSelectedReport Csv false selection world text =
    IsListing selection world (IsVerdictOf world) full_layout.line (λ lines. full_layout.header ++ concat lines) text
IsSelectedReport Json true selection world text = IsListing selection world (IsDecisionOf world) brief_layout.object json_text text
IsSelectedReport Json false selection world text = IsListing selection world (IsVerdictOf world) full_layout.object json_text text

-- the brief header, and the brief row of the first cell that is selected and allowed, where there is one
abbrev pub IsFirstSelectedReport : SelectionValue → WorldValue → List ℕ → Type 0
IsFirstSelectedReport selection world text =
    (first : Option ℕ) × IsFirstSelected selection world first × IsFirstText world first text
