use Rattle.std.proofs.Common.{◌<◌, Some, length, ap, sym, ◌∙◌, arith}
use Rattle.std.proofs.lemmas.Option.{slice_get-get_or}
use Rattle.iam_columns.proofs.rows.Rows.known.Goals as goal

pub returns-then-equals : goal.returns-then-equals
returns-then-equals c =
    let rows = c.args.self.now.rows.items in
    let n = c.in_ok-number.field-0.now in
    let row = c.index.result.now in
    let within : n < length rows = omega (arith, c.if-number-len.true, c.len.ensures) in
    (row, slice_get-get_or rows n row within ∙ ap Some (sym c.index.ensures), ap Some (c.equals.ensures c.if-equals.true))
