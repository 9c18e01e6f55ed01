use Rattle.std.proofs.Common.{inl, inr, refl}
use Rattle.std.proofs.lemmas.Result.{IfErr-weaker, IfOk-weaker}
use Rattle.iam_app.specs.Command.{AsksNothing}
use Rattle.iam_app.proofs.Asking.{asks_some, ends_of_all, ends_of_some}
use Rattle.iam_app.proofs.command.run_command.Goals as goal

pub returns-in-Ok-clause-done : goal.returns-in-Ok-clause-done
returns-in-Ok-clause-done g c =
    let silent : AsksNothing c.args.command.now.asked = c.is_nothing.ensures.0 c.if-is_nothing.true in inl (silent, c.in-Ok.ensures.done, refl)

pub returns-in-Err-clause-fault : goal.returns-in-Err-clause-fault
returns-in-Err-clause-fault g c =
    let silent : AsksNothing c.args.command.now.asked = c.is_nothing.ensures.0 c.if-is_nothing.true in
    ends_of_all c.args.command.now _ _ _ c.in-Err.fault silent c.in-Err.ensures.fault

pub returns-clause-done : goal.returns-clause-done
returns-clause-done g c =
    let asks = asks_some c.is_nothing.result c.args.command.now.asked c.is_nothing.ensures c.if-is_nothing.false in
    IfOk-weaker c.run_told.result _ _ (λ some h. inr (asks, (c.in_ok-selection.selection, c.in_ok-selection.ensures, h)))
    c.run_told.ensures.done

pub returns-clause-fault : goal.returns-clause-fault
returns-clause-fault g c =
    let asks = asks_some c.is_nothing.result c.args.command.now.asked c.is_nothing.ensures c.if-is_nothing.false in
    IfErr-weaker c.run_told.result _ _
    (λ fault h. ends_of_some c.args.command.now c.in_ok-selection.selection _ _ _ fault asks c.in_ok-selection.ensures h)
    c.run_told.ensures.fault
