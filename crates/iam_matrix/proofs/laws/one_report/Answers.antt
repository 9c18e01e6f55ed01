use Rattle.iam_matrix.proofs.OneMatrix.{one_first_report, one_report}
use Rattle.iam_matrix.proofs.laws.one_report.Goals as goal

pub returns : goal.returns
returns c = record {
  matrix = one_report c.one_matrix.ensures c.one_brief_matrix.ensures c.one_text.ensures.full c.one_text.ensures.brief;
  first = one_first_report c.one_first.ensures c.one_triple.ensures.one c.one_row.ensures.brief;
}
