use Rattle.std.proofs.Common.{ap}
use Rattle.std.proofs.lemmas.Result.{MatchResult-from_err, on_err_weaker, on_ok_weaker}
use Rattle.iam_report.proofs.Buffered.{end_done, end_fails, rows_fail}
use Rattle.iam_changes.specs.Code.Pieces.{rows_in}
use Rattle.iam_changes.proofs.Written.{text_parts}
use Rattle.iam_changes.proofs.text.ChangesText.write_to.Goals as goal

pub returns-in_err-put_parts-clause-err : goal.returns-in_err-put_parts-clause-err
returns-in_err-put_parts-clause-err g c =
    MatchResult-from_err _ _ _ c.from_residual-in_err-put_parts.ensures.0
    (λ _. rows_fail _ _ _ _ _ _ _ _ _ c.requires (text_parts _ _ _ _ c.self.view_is (ap rows_in c.as_slice-parts.ensures.value) c.changes_opening.ensures)
    c.in_ok-put.ensures.ok c.in_err-put_parts.ensures.err)

pub returns-clause-ok : goal.returns-clause-ok
returns-clause-ok g c =
    on_ok_weaker c.write_end.result
    (end_done _ _ _ _ _ _ _ _ _ _ _ c.requires (text_parts _ _ _ _ c.self.view_is (ap rows_in c.as_slice-parts.ensures.value) c.changes_opening.ensures)
    c.in_ok-put.ensures.ok c.in_ok-put_parts.ensures.ok)
    c.write_end.ensures.ok

pub returns-clause-err : goal.returns-clause-err
returns-clause-err g c =
    on_err_weaker c.write_end.result
    (end_fails _ _ _ _ _ _ _ _ _ _ _ c.requires (text_parts _ _ _ _ c.self.view_is (ap rows_in c.as_slice-parts.ensures.value) c.changes_opening.ensures)
    c.in_ok-put.ensures.ok c.in_ok-put_parts.ensures.ok)
    c.write_end.ensures.err
