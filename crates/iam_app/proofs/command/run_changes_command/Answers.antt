use Rattle.std.proofs.Common.{None}
use Rattle.std.proofs.lemmas.Result.{IfErr-weaker, IfOk-weaker, err_from_is_err_and}
use Rattle.iam_app.proofs.Asking.{nothing_read}
use Rattle.iam_app.proofs.command.run_changes_command.Goals as goal

pub returns-in_err-selection-clause-fault : goal.returns-in_err-selection-clause-fault
returns-in_err-selection-clause-fault g c =
    let p = err_from_is_err_and c.from_residual.result c.from_residual.ensures.1 in
    rw (p.1, p.2) (nothing_read c.args.command.now.options c.args.command.now.asked None None _)

pub returns-clause-done : goal.returns-clause-done
returns-clause-done g c =
    IfOk-weaker c.tell_changes.result _ _ (λ comparison h. (c.in_ok-selection.selection, c.in_ok-selection.ensures, h))
    c.tell_changes.ensures.done

pub returns-clause-fault : goal.returns-clause-fault
returns-clause-fault g c =
    IfErr-weaker c.tell_changes.result _ _ (λ fault h. (c.in_ok-selection.selection, c.in_ok-selection.ensures, h))
    c.tell_changes.ensures.fault
