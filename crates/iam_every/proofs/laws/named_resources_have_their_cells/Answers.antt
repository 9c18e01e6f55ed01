use Rattle.iam_every.proofs.NamedCellLemmas.{named_decisions, named_verdicts}
use Rattle.iam_every.proofs.laws.named_resources_have_their_cells.Goals as goal

pub returns-clause-verdicts : goal.returns-clause-verdicts
returns-clause-verdicts c = named_verdicts

pub returns-clause-decisions : goal.returns-clause-decisions
returns-clause-decisions c = named_decisions
