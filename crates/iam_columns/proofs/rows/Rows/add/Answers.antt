use Rattle.std.proofs.Common.{◌≡◌, ◌++◌, ◌∷◌, [], ℕ, List, Some, length, refl, sym, subst, arith}
use Rattle.std.specs.List.{slice_get}
use Rattle.iam_columns.specs.Rows.{AreRows, HasRow, IsRow}
use Rattle.iam_columns.specs.declared.rows.Row.{Row}
use Rattle.iam_columns.proofs.ListLemmas.{at_more, get_next}
use Rattle.iam_columns.proofs.rows.Rows.add.Goals as goal

pub returns-clause-right : goal.returns-clause-right
returns-clause-right c = λ world is right.
    let P : List Row → Type 0 = AreRows world in
    let I : ℕ → Row → Type 0 = λ _ row. IsRow world row in
    subst P (sym c.in-Ok.ensures.items) (at_more I c.args.self.now.rows.items c.args.row is right)

pub returns-clause-row : goal.returns-clause-row
returns-clause-row c =
    let rows = c.args.self.now.rows.items in
    let row = c.args.row in
    let R : List Row → Type 0 = λ all. HasRow all c.len-number.result (Some row.element.now) in
    let N : ℕ → Type 0 = λ n. slice_get (rows ++ row ∷ []) n ≡ Some row in
    let is : length rows ≡ c.len-number.result = omega (arith, c.len-number.ensures) in
    subst R (sym c.in-Ok.ensures.items) (row, subst N is (get_next rows row), refl)
