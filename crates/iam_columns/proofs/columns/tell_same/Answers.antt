use Rattle.std.proofs.Common.{Some, arith, ap, sym, ◌∙◌}
use Rattle.std.proofs.lemmas.Option.{slice_get-get_or, slice_get_within}
use Rattle.iam_columns.proofs.ColumnLemmas.{match_more}
use Rattle.iam_columns.proofs.columns.tell_same.Goals as goal

pub loop-row-preserved : goal.loop-row-preserved
loop-row-preserved c = λ world are n it less there.
    let rows = c.args.rows.now in
    let i = c.loop-row.row-index in
    let row = c.row-item.result in
    let at = slice_get-get_or rows i row c.loop-row-test.true ∙ ap Some (sym c.row-item.is) in
    match_more world rows i c.args.one c.args.other row at (c.tells_same.ensures world (are i row at) c.if-not-tells_same.false)
    (c.loop-row.invariant world are) n it less there

pub returns : goal.returns
returns c = λ world are so n row at.
    let within = slice_get_within c.args.rows.now n row at in
    c.loop-row.invariant world are n row (omega (arith, within, c.loop-row-test.false, c.loop-row.auto.row-index-end)) at
