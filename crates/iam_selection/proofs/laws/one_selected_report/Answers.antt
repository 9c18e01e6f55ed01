use Rattle.iam_selection.proofs.OneListing.{one_first_selected, one_selected}
use Rattle.iam_selection.proofs.laws.one_selected_report.Goals as goal

pub returns : goal.returns
returns c = record {
  listing = one_selected c.one_verdict_at.ensures.cell c.one_decision_at.ensures.cell;
  first = one_first_selected c.one_decision_at.ensures.cell c.one_triple.ensures.one c.one_row.ensures.brief;
}
