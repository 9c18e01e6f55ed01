use Rattle.iam_layers.specs.Cell.{IsVerdictAt}
use Rattle.iam_matrix.proofs.RowLemmas.{adds_none}
use Rattle.iam_matrix.proofs.leads.put_known.Goals as goal

pub returns-then-is_empty-clause-entries : goal.returns-then-is_empty-clause-entries
returns-then-is_empty-clause-entries c =
    adds_none (IsVerdictAt c.args.engine.now.world c.args.at.principal c.args.at.action) c.args.at.resource c.args.entries.now

pub put_pairs-requires-clause-leads : goal.put_pairs-requires-clause-leads
put_pairs-requires-clause-leads c = (c.args.engine.now, c.known_from-pairs.ensures, c.requires.leads)

pub returns-clause-entries : goal.returns-clause-entries
returns-clause-entries c = c.put_pairs.ensures.entries c.args.engine.now c.known_from-pairs.ensures c.requires.leads
