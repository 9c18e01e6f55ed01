use Rattle.iam_layers.specs.Cell.{IsVerdictAt}
use Rattle.iam_matrix.proofs.LeadLemmas.{leads_behind}
use Rattle.iam_matrix.proofs.RowLemmas.{adds_one}
use Rattle.iam_matrix.proofs.said.VerdictsSaidVerdict.say.Goals as goal

pub returns-then-count-most-clause-fits : goal.returns-then-count-most-clause-fits
returns-then-count-most-clause-fits c =
    let at = c.args.at in
    let engine = c.args.engine.now in
    leads_behind engine c.args.self.now.leads.items (IsVerdictAt engine.world at.principal at.action) at.resource c.in_ok-count.count
    c.args.self.now.entries c.put_known.new.entries c.requires.fits c.in_ok-count.ensures.entries

pub add-requires-clause-leads : goal.add-requires-clause-leads
add-requires-clause-leads c =
    let at = c.args.at in
    let engine = c.args.engine.now in
    leads_behind engine c.args.self.now.leads.items (IsVerdictAt engine.world at.principal at.action) at.resource c.in_ok-count.count
    c.args.self.now.entries c.put_known.new.entries c.requires.fits c.in_ok-count.ensures.entries

pub returns-clause-said : goal.returns-clause-said
returns-clause-said c =
    let at = c.args.at in
    let Is = IsVerdictAt c.args.engine.now.world at.principal at.action in
    let (verdict, is, put) = c.in_ok-add.ensures.verdict in
    adds_one Is at.resource c.in_ok-count.count c.args.self.now.entries c.put_known.new.entries c.add.new.self.entries verdict c.in_ok-count.ensures.entries is put
