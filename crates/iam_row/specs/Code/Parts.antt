-- The row of one cell.
use Rattle.std.specs.Prelude.{◌≡◌, ℕ, List, ◌++◌, Bool}
use Rattle.iam_decision.specs.declared.verdict.Verdict.{Verdict}
use Rattle.iam_world.specs.World.{WorldValue}
use Rattle.iam_row.specs.Piece.{opening_text, pieces_of, row_text, tail_of}
use Rattle.iam_row.specs.Report.{CellTexts, HasTexts}
use Rattle.iam_row.specs.declared.quoted.Format.TheVariants.{Csv}
use Rattle.iam_row.specs.declared.cell.Pieces.{Pieces}

-- the pieces of a request
abbrev pub pieces_in : Pieces → CellTexts
pieces_in pieces = record { principal = pieces.principal; action = pieces.action; resource = pieces.resource }

-- these are the pieces where principal p asks for action a on resource r
abbrev pub HasPieces : WorldValue → ℕ → ℕ → ℕ → Pieces → Type 0
HasPieces world p a r pieces = (texts : CellTexts) × HasTexts world p a r texts × (pieces_in pieces ≡ pieces_of Csv texts)

-- the header and a row, put together from pieces
abbrev pub IsRowOf : WorldValue → ℕ → ℕ → ℕ → ℕ → Bool → Verdict → List ℕ → Type 0
IsRowOf world cell p a r brief verdict text =
    (texts : CellTexts) × HasTexts world p a r texts
    × (text ≡ opening_text Csv brief ++ row_text Csv cell (pieces_of Csv texts) (tail_of Csv brief verdict))
