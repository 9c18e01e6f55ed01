use Rattle.iam_matrix.proofs.LeadLemmas.{leads_classes}
use Rattle.iam_matrix.proofs.said.class_of.Goals as goal

pub returns-else-found-clause-leads : goal.returns-else-found-clause-leads
returns-else-found-clause-leads c = λ verdicts leads.
    leads_classes c.args.engine.now c.class.new.self c.args.leads.now.items verdicts c.in_ok-found.ensures.same.0 (c.in_ok-found.ensures.kept c.if-found.false) leads
