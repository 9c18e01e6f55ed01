use Rattle.iam_layers.proofs.OneAnswer.{one_verdict_at, one_verdict_of}
use Rattle.iam_layers.proofs.laws.one_verdict_at.Goals as goal

pub returns : goal.returns
returns c =
    let at = one_verdict_at c.one_verdict.ensures c.one_request.ensures in
    record { request = at; cell = one_verdict_of at c.one_triple.ensures.one }
