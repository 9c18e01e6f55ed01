use Rattle.iam_ask.proofs.OneReport.{decides, judges}
use Rattle.iam_ask.proofs.laws.without_keys_as_its_cell.Goals as goal

pub returns-clause-verdict : goal.returns-clause-verdict
returns-clause-verdict c = judges c.no_keys_change_nothing.ensures.verdict c.one_triple.ensures.one

pub returns-clause-decision : goal.returns-clause-decision
returns-clause-decision c = decides c.no_keys_change_nothing.ensures.decision c.one_triple.ensures.one
