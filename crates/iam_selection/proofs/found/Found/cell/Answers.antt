use Rattle.std.proofs.Common.{◌<◌, List, ap, length, get_or, sym, ◌∙◌, arith}
use Rattle.std.proofs.lemmas.List.{get_or_default}
use Rattle.iam_selection.specs.Code.Listing.{RowValue, no_row}
use Rattle.iam_selection.proofs.Founds.{count_rows, row_at}
use Rattle.iam_selection.proofs.found.Found.cell.Goals as goal

pub index-requires : goal.index-requires
index-requires c =
    let f = c.self.inside in
    omega (arith, c.requires, ap (λ (rows : List RowValue). length rows) c.self.view_is, count_rows f.cells.items f.tile c.self.invariant)

pub returns : goal.returns
returns c =
    let f = c.self.inside in
    let inside : c.args.i < length f.cells.items =
    omega (arith, c.requires, ap (λ (rows : List RowValue). length rows) c.self.view_is, count_rows f.cells.items f.tile c.self.invariant) in
    c.from.ensures ∙ c.index.ensures ∙ get_or_default f.cells.items c.args.i c.index.result.now 0 inside
    ∙ sym (ap (λ (row : RowValue). row.cell) (row_at f.cells.items f.tile c.args.i c.self.invariant inside))
    ∙ ap (λ (rows : List RowValue). (get_or rows c.args.i no_row).cell) c.self.view_is
