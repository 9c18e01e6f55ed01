use Rattle.std.proofs.Common.{◌<◌, List, ap, length, get_or, sym, ◌∙◌, arith}
use Rattle.iam_selection.specs.Code.Listing.{RowValue, no_row}
use Rattle.iam_selection.proofs.Founds.{count_rows, row_at}
use Rattle.iam_selection.proofs.found.Found.tail.Goals as goal

pub tail-requires : goal.tail-requires
tail-requires c =
    let f = c.self.inside in
    omega (arith, c.requires, ap (λ (rows : List RowValue). length rows) c.self.view_is, count_rows f.cells.items f.tile c.self.invariant, c.self.invariant)

pub returns : goal.returns
returns c =
    let f = c.self.inside in
    let inside : c.args.i < length f.cells.items =
    omega (arith, c.requires, ap (λ (rows : List RowValue). length rows) c.self.view_is, count_rows f.cells.items f.tile c.self.invariant) in
    c.tail.ensures ∙ sym (ap (λ (row : RowValue). row.tail) (row_at f.cells.items f.tile c.args.i c.self.invariant inside))
    ∙ ap (λ (rows : List RowValue). (get_or rows c.args.i no_row).tail) c.self.view_is
