use Rattle.iam_json.proofs.Lists.{list_smaller}
use Rattle.iam_json.proofs.laws.list_is_small.Goals as goal

pub returns : goal.returns
returns c = list_smaller
