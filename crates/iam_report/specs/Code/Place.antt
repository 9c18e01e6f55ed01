-- Where a row of some cells stands: the position of its cell, and the comma before its object.
use Rattle.std.specs.Prelude.{ℕ, ◌/◌, ◌%◌, ◌==◌, List, [], codes, if◌then◌else◌, length, max}
use Rattle.iam_row.specs.declared.position.Position.{Position}
use Rattle.iam_row.specs.declared.quoted.Quoted.{Quoted}

-- the position of a cell, by how many pieces there are
abbrev pub position_in : Quoted → ℕ → Position
position_in quoted cell = record {
  cell = cell;
  principal = cell / max (length quoted.resources) 1 / max (length quoted.actions) 1;
  action = cell / max (length quoted.resources) 1 % max (length quoted.actions) 1;
  resource = cell % max (length quoted.resources) 1;
}

-- the comma before the object of a cell, unless it is the first
abbrev pub comma_of : ℕ → ℕ → List ℕ
comma_of lead cell = if cell == lead then [] else codes ","
