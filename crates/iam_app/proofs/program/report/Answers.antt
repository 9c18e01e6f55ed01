use Rattle.std.proofs.Common.{sym, subst}
use Rattle.iam_app.specs.Output.{IsReportOf}
use Rattle.iam_app.proofs.program.report.Goals as goal

pub returns-in_ok-decide-in-Decide-clause-ok : goal.returns-in_ok-decide-in-Decide-clause-ok
returns-in_ok-decide-in-Decide-clause-ok g c =
    subst (λ task. IsReportOf task c.args.options.now c.args.world.now c.in_ok-decide-in-Decide.field-0.items) (sym c.in-Decide.is)
    c.in_ok-decide-in-Decide.ensures.ok
