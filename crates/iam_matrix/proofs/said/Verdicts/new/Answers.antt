use Rattle.iam_matrix.proofs.said.Verdicts.new.Goals as goal

pub returns-clause-leads : goal.returns-clause-leads
returns-clause-leads c = λ engine. c.no_leads.ensures engine c.in_ok-new.field-0
