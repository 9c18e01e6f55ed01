-- The rows of the resource elements of the statements that an index lists. LOGIC 2.4.
use Rattle.std.specs.Prelude.{◌≡◌, ℕ, IsTrue, List, Some}
use Rattle.std.specs.List.{slice_get}
use Rattle.iam_decision.specs.declared.scan.Standing.{Standing}
use Rattle.iam_columns.specs.Rows.{AreStatementRows, HasRow}
use Rattle.iam_columns.specs.declared.rows.Row.{Row}
use Rattle.iam_index.specs.declared.list_rows.ListRows.{ListRows}

-- each of these statements has a row
abbrev pub AllHaveRows : List Row → List Standing → Type 0
AllHaveRows rows statements =
    (i : ℕ) (standing : Standing) → slice_get statements i ≡ Some standing → (n : ℕ) × HasRow rows n standing.statement.now.resource

-- these are the rows of the statements, and where it says so each has one
pub record IsListRows (rows : List Row) (statements : List Standing) (known : ListRows) : Type 0 where
  pub are : AreStatementRows rows statements known.rows.items
  pub told : IsTrue known.told → AllHaveRows rows statements

-- these are the rows of the statements of lists
abbrev pub AreListRows : {L : Type 0} → (L → List Standing) → List Row → List L → List ListRows → Type 0
AreListRows {L} statements rows lists known =
    (i : ℕ) (list : L) (numbers : ListRows) → slice_get lists i ≡ Some list → slice_get known i ≡ Some numbers
    → IsListRows rows (statements list) numbers
