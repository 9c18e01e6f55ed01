use Rattle.std.proofs.Common.{IfOk, subst}
use Rattle.iam_world.specs.World.{WorldValue}
use Rattle.iam_changes.specs.Code.Pieces.{ReportValue, report_text}
use Rattle.iam_app.specs.Changes.{IsAskedChanges}
use Rattle.iam_app.proofs.changes.compare.Goals as goal

-- the requests are those of the two worlds
pub returns-clause-ok : goal.returns-clause-ok
returns-clause-ok g c =
    let P : WorldValue → WorldValue → Type 0 = λ before after.
    IfOk c.report_of.result (λ (report : ReportValue). IsAskedChanges c.args.options.now c.args.selection.now before after (report_text report) report.kinds) in
    subst (P c.args.before.now) c.in_ok-requests.ensures.after
    (subst (λ w. P w c.in_ok-requests.requests.after) c.in_ok-requests.ensures.before c.report_of.ensures.ok)
