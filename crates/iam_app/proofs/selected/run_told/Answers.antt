use Rattle.std.proofs.lemmas.Result.{err_from_is_err_and}
use Rattle.iam_app.proofs.Selecting.{refuses_selected}
use Rattle.iam_app.proofs.selected.run_told.Goals as goal

pub returns-in_err-answer-clause-fault : goal.returns-in_err-answer-clause-fault
returns-in_err-answer-clause-fault g c =
    let p = err_from_is_err_and c.from_residual-in_err-answer.result c.from_residual-in_err-answer.ensures.1 in
    rw (p.1, p.2)
    (refuses_selected c.args.options.now c.args.selection.now _ _ c.in_ok-bytes.bytes.items c.in_ok-bytes.ensures.ok c.in_ok-bytes.ensures.fits c.in_err-answer.field-0.0
    c.in_err-answer.ensures.fault)
