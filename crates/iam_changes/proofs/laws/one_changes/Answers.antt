use Rattle.iam_changes.proofs.ChangeLaws.{one_list, one_report}
use Rattle.iam_changes.proofs.laws.one_changes.Goals as goal

pub returns : goal.returns
returns c = record {
  list = one_list c.one_verdict_at.ensures.cell c.one_triple.ensures.one c.one_count.ensures.list;
  report = one_report c.one_verdict_at.ensures.cell c.one_triple.ensures.one c.one_count.ensures.list;
}
