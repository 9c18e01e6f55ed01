-- Texts and rows on their way through a buffer.
use Rattle.std.specs.Prelude.{Option, ◌≡◌, ◌≤◌, ℕ, List, ◌++◌}
use Rattle.std.specs.Io.KnownBytes.{Appends}
use Rattle.iam_row.specs.Piece.{rows_text}
use Rattle.iam_row.specs.declared.position.Position.{Position}
use Rattle.iam_row.specs.declared.quoted.Quoted.{Quoted}
use Rattle.iam_row.specs.declared.tail.Tail.{Tail}

-- a text was taken: what was kept and the text are what the writer gained and what is kept now
pub record Passes (old new : Option (List ℕ)) (kept rest text : List ℕ) : Type 0 where
  pub front : List ℕ
  pub parts : kept ++ text ≡ front ++ rest
  pub gained : Appends old new front

-- rows with these tails were taken, from one position on, and others would follow at another
pub record PutsRows (quoted : Quoted) (tails : List Tail) (at behind : Position) (old new : Option (List ℕ)) (kept rest : List ℕ) : Type 0 where
  pub text : List ℕ
  pub rows : (more : List Tail) → rows_text quoted at (tails ++ more) ≡ text ++ rows_text quoted behind more
  pub passes : Passes old new kept rest text

-- no number of a position is above that of its cell
pub record IsWithin (at : Position) : Type 0 where
  pub principal : at.principal ≤ at.cell
  pub action : at.action ≤ at.cell
  pub resource : at.resource ≤ at.cell
