use Rattle.iam_layers.proofs.OneAnswer.{one_decision_at, one_decision_of}
use Rattle.iam_layers.proofs.laws.one_decision_at.Goals as goal

pub returns : goal.returns
returns c =
    let at = one_decision_at c.one_decision.ensures c.one_request.ensures in
    record { request = at; cell = one_decision_of at c.one_triple.ensures.one }
