-- A row: a request, and what is said of it, whatever values the keys have that nothing gives. LOGIC 11.6 and 11.12.
use Rattle.std.specs.Prelude.{ℕ, List, Option, string_bytes}
use Rattle.std.specs.Arc.{arc_value}
use Rattle.iam_open_every.specs.declared.rows.Row.{Row}
use Rattle.iam_open_every.specs.declared.said.Said.{Said}

-- a request, and what is said of it; or a line of which not all texts, or not all actions, could be shown, by its pattern as it is written
pub record RowValue : Type 0 where
  pub action : List ℕ
  pub resource : List ℕ
  pub said : Option Said

-- without where it lies in memory
abbrev pub row_of : Row → RowValue
row_of row = record { action = string_bytes (arc_value row.action_text); resource = string_bytes (arc_value row.resource_text); said = row.said }
