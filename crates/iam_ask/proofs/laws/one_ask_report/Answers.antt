use Rattle.iam_ask.proofs.OneReport.{one_report}
use Rattle.iam_ask.proofs.laws.one_ask_report.Goals as goal

pub returns : goal.returns
returns c = one_report c.one_own_verdict.ensures c.one_own_decision.ensures
