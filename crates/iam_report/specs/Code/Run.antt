-- Rows that follow one another, with the same principal and action.
use Rattle.std.specs.Prelude.{◌≡◌, ◌+◌, ℕ, zero, suc, IsTrue, List, ◌++◌, length}
use Rattle.iam_report.specs.Code.Line.{LineValue}
use Rattle.iam_row.specs.Piece.{next_of, rows_text}
use Rattle.iam_row.specs.declared.position.Position.{Position}
use Rattle.iam_row.specs.declared.quoted.Quoted.{Quoted}
use Rattle.iam_row.specs.declared.tail.Tail.{Tail}

-- the front of a line is that of the row before a position, whose principal and action are the same
pub record IsBefore (line : LineValue) (at : Position) : Type 0 where
  pub made : IsTrue line.is_made
  pub cell : line.cell + 1 ≡ at.cell
  pub principal : line.principal ≡ at.principal
  pub action : line.action ≡ at.action

-- so many cells further, with the same principal and action
abbrev pub further : Position → ℕ → Position
further at n = record { cell = at.cell + n; principal = at.principal; action = at.action; resource = at.resource + n }

-- the position behind so many rows with the same principal and action
abbrev pub behind_rows : ℕ → ℕ → Position → ℕ → Position
behind_rows actions resources at zero = at
behind_rows actions resources at (suc n) = next_of actions resources (further at n)

abbrev pub behind_in : Quoted → Position → ℕ → Position
behind_in quoted at n = behind_rows (length quoted.actions) (length quoted.resources) at n

-- rows with these tails, from one position on, were put behind a text, and others would follow at another
pub record AddsRows (quoted : Quoted) (tails : List Tail) (at behind : Position) (old new : List ℕ) : Type 0 where
  pub text : List ℕ
  pub rows : (more : List Tail) → rows_text quoted at (tails ++ more) ≡ text ++ rows_text quoted behind more
  pub added : new ≡ old ++ text
