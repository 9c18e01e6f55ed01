use Rattle.iam_columns.proofs.SlotLemmas.{all_gained}
use Rattle.iam_matrix.specs.Code.Leads.{IsLead}
use Rattle.iam_columns.specs.declared.numbered.Numbered.{Numbered}
use Rattle.iam_matrix.proofs.leads.keep_lead.Goals as goal

pub returns : goal.returns
returns c = λ engine verdicts all one.
    let old = c.args.leads.now.items in
    let new = c.keep_number.new.slots.items in
    let lead : Numbered = record { one = c.args.class; other = c.args.a; number = c.args.place } in
    all_gained (λ (l : Numbered). IsLead engine verdicts l) old new lead c.keep_number.ensures.gains all one
