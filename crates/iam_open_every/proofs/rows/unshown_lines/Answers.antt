use Rattle.std.proofs.Common.{◌∷◌, [], ◌++◌, map, ap, ◌∙◌}
use Rattle.std.proofs.lemmas.List.{map-append}
use Rattle.iam_every.specs.Every.{line_of}
use Rattle.iam_every.proofs.ListLemmas.{map_more}
use Rattle.iam_open_every.specs.Made.{unshown_row}
use Rattle.iam_open_every.specs.Row.{RowValue, row_of}
use Rattle.iam_open_every.proofs.rows.unshown_lines.Goals as goal

pub loop-line-preserved : goal.loop-line-preserved
loop-line-preserved c =
    let lines = c.args.lines.now in
    let i = c.loop-line.line-index in
    let row : RowValue = row_of c.in_ok-unshown_row.field-0 in
    let rows = map row_of c.loop-line.rows.items in
    let unshown = unshown_row c.args.actions.now in
    ap (map row_of) c.in_ok-push.ensures.items ∙ map-append row_of c.loop-line.rows.items _ ∙ ap (λ (x : RowValue). rows ++ (x ∷ [])) c.in_ok-unshown_row.ensures
    ∙ ap (λ xs. xs ++ (unshown (line_of c.line-item.result) ∷ [])) c.loop-line.invariant
    ∙ map_more unshown line_of lines i c.line-item.result c.loop-line-test.true c.line-item.is
