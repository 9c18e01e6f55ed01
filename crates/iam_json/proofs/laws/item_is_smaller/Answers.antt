use Rattle.iam_json.proofs.Lists.{item_smaller}
use Rattle.iam_json.proofs.laws.item_is_smaller.Goals as goal

pub returns : goal.returns
returns c = item_smaller
