use Rattle.iam_layers.proofs.OneAnswer.{one_request}
use Rattle.iam_layers.proofs.laws.one_request.Goals as goal

pub returns : goal.returns
returns c = one_request c.one_stamp.ensures
