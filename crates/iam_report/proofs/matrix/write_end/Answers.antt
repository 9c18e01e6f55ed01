use Rattle.std.proofs.lemmas.Result.{on_err_weaker, on_ok_weaker}
use Rattle.iam_report.proofs.Buffered.{passes_done, passes_undone}
use Rattle.iam_report.proofs.matrix.write_end.Goals as goal

pub returns-clause-ok : goal.returns-clause-ok
returns-clause-ok g c =
    on_ok_weaker c.write_kept.result (passes_done _ _ _ _ _ _ _ c.closing.ensures c.in_ok-put.ensures.ok) c.write_kept.ensures.ok

pub returns-clause-err : goal.returns-clause-err
returns-clause-err g c =
    on_err_weaker c.write_kept.result (passes_undone _ _ _ _ _ _ _ c.closing.ensures c.in_ok-put.ensures.ok) c.write_kept.ensures.err
