use Rattle.iam_app.proofs.Flushed.{flushed, unflushed}
use Rattle.iam_app.proofs.output.write_names.Goals as goal

pub returns-clause-ok : goal.returns-clause-ok
returns-clause-ok g c = flushed c.flush.result _ _ _ _ c.in_ok-write_to.ensures.ok c.flush.ensures

pub returns-clause-err : goal.returns-clause-err
returns-clause-err g c = unflushed c.flush.result _ _ _ _ c.in_ok-write_to.ensures.ok c.flush.ensures
