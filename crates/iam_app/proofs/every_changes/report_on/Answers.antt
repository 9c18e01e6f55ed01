use Rattle.std.proofs.Common.{List, map, subst, sym}
use Rattle.iam_every_changes.specs.Compared.{AreComparable, compared_of, who_of}
use Rattle.iam_every_changes.specs.declared.compared.Who.{Who}
use Rattle.iam_app.proofs.ComparingLemmas.{comparable}
use Rattle.iam_app.proofs.every_changes.report_on.Goals as goal

pub every_changes_report-requires-clause-comparable : goal.every_changes_report-requires-clause-comparable
every_changes_report-requires-clause-comparable g c κs within =
    let compared = compared_of c.args.compared in
    subst (λ (whos : List Who). AreComparable compared (map who_of whos)) (sym c.as_slice-3.ensures.value)
    (comparable compared c.as_slice-2.result.now (map who_of c.in_ok-whos.whos.items) c.requires.compared c.in_ok-whos.ensures)
