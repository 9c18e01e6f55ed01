use Rattle.iam_unasked.proofs.AgreeLemmas.{all_same, contexts_agree}
use Rattle.iam_unasked.proofs.laws.unasked_keys.Goals as goal

pub returns-clause-conditions : goal.returns-clause-conditions
returns-clause-conditions c = all_same

pub returns-clause-contexts : goal.returns-clause-contexts
returns-clause-contexts c = contexts_agree
