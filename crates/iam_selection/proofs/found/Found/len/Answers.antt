use Rattle.std.proofs.Common.{List, ap, length, arith}
use Rattle.iam_selection.specs.Code.Listing.{RowValue}
use Rattle.iam_selection.proofs.Founds.{count_rows}
use Rattle.iam_selection.proofs.found.Found.len.Goals as goal

pub returns : goal.returns
returns c =
    let f = c.self.inside in
    omega (arith, c.len.ensures, ap (λ (rows : List RowValue). length rows) c.self.view_is, count_rows f.cells.items f.tile c.self.invariant)
