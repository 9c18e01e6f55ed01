use Rattle.iam_every_changes.proofs.OneReportLemmas.{no_report_too_long, one_every_changes_report}
use Rattle.iam_every_changes.proofs.laws.one_every_changes_report.Goals as goal

pub returns-clause-one : goal.returns-clause-one
returns-clause-one c = one_every_changes_report c.one_list_of_changes.ensures

pub returns-clause-long : goal.returns-clause-long
returns-clause-long c = no_report_too_long c.one_list_of_changes.ensures
