use Rattle.iam_context.proofs.RequesterLemmas.{one_of_parts}
use Rattle.iam_context.proofs.laws.one_requester.Goals as goal

pub returns : goal.returns
returns c = one_of_parts c.one_arn.ensures
