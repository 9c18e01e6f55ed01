use Rattle.std.proofs.Common.{sym, subst}
use Rattle.std.proofs.lemmas.Result.{err_from_is_err_and}
use Rattle.iam_changes.specs.declared.change.Kinds.{Kinds}
use Rattle.iam_app.specs.Changes.{IsComparison}
use Rattle.iam_changes.specs.Code.Pieces.{report_text}
use Rattle.iam_app.proofs.Compared.{no_after, no_before, not_compared, not_of_before, not_of_writing, not_written}
use Rattle.iam_app.proofs.changes.tell_changes.Goals as goal

pub returns-in-Err-clause-fault : goal.returns-in-Err-clause-fault
returns-in-Err-clause-fault g c =
    rw c.of_before.ensures (no_before c.args.options.now c.args.selection.now _ _ _ c.in-Err.fault c.in-Err.ensures.fault)

pub returns-in_err-after-clause-fault : goal.returns-in_err-after-clause-fault
returns-in_err-after-clause-fault g c =
    let p = err_from_is_err_and c.from_residual.result c.from_residual.ensures.1 in
    rw (p.1, p.2)
    (no_after c.args.options.now c.args.selection.now _ _ _ c.in_err-after.field-0.0 (c.in-Ok.world, c.in-Ok.ensures.ok) c.in_err-after.ensures.fault)

pub returns-in_err-after-clause-unread : goal.returns-in_err-after-clause-unread
returns-in_err-after-clause-unread g c =
    let p = err_from_is_err_and c.from_residual.result c.from_residual.ensures.1 in
    rw (p.1, p.2) (λ of_before. absurd (not_of_before _ c.in_err-after.field-0.0 c.in_err-after.ensures.fault of_before))

pub returns-in_err-report-clause-fault : goal.returns-in_err-report-clause-fault
returns-in_err-report-clause-fault g c =
    let p = err_from_is_err_and c.from_residual-in_err-report.result c.from_residual-in_err-report.ensures.1 in
    rw (p.1, p.2)
    (not_compared c.args.options.now c.args.selection.now _ _ _ c.in-Ok.world c.in_ok-after.after c.in_err-report.field-0.0 c.in-Ok.ensures.ok
    c.in_ok-after.ensures.ok c.in_err-report.ensures.fault)

pub returns-in_err-report-clause-unread : goal.returns-in_err-report-clause-unread
returns-in_err-report-clause-unread g c =
    let p = err_from_is_err_and c.from_residual-in_err-report.result c.from_residual-in_err-report.ensures.1 in
    rw (p.1, p.2) (λ of_before. absurd of_before)

pub returns-clause-done : goal.returns-clause-done
returns-clause-done g c =
    let report = c.in_ok-report.field-0 in
    let before = c.in-Ok.world in
    let after = c.in_ok-after.after in
    let (told, appends) = c.in_ok-kinds.ensures.done in
    let K : Kinds → Type 0 = λ kinds. IsComparison c.args.options.now c.args.selection.now before after (report_text report) kinds in (
      before,
      after,
      c.in-Ok.ensures.ok,
      c.in_ok-after.ensures.ok,
      (report_text report, subst K (sym told) (c.in_ok-report.ensures.work, c.in_ok-report.ensures.ok), appends),
      c.in_ok-some.ensures,
    )

pub returns-in_err-kinds-clause-fault : goal.returns-in_err-kinds-clause-fault
returns-in_err-kinds-clause-fault g c =
    let report = c.in_ok-report.field-0 in
    let p = err_from_is_err_and c.from_residual-in_err-kinds.result c.from_residual-in_err-kinds.ensures.1 in
    rw (p.1, p.2)
    (not_written c.args.options.now c.args.selection.now _ _ _ _ c.in-Ok.world c.in_ok-after.after (report_text report) report.kinds c.in_err-kinds.field-0.0
    c.in-Ok.ensures.ok c.in_ok-after.ensures.ok (c.in_ok-report.ensures.work, c.in_ok-report.ensures.ok) c.in_err-kinds.ensures.fault)

pub returns-in_err-kinds-clause-unread : goal.returns-in_err-kinds-clause-unread
returns-in_err-kinds-clause-unread g c =
    let p = err_from_is_err_and c.from_residual-in_err-kinds.result c.from_residual-in_err-kinds.ensures.1 in
    rw (p.1, p.2) (λ of_before. absurd (not_of_writing _ _ (report_text c.in_ok-report.field-0) c.in_err-kinds.field-0.0 c.in_err-kinds.ensures.fault of_before))
