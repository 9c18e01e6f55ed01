use Rattle.iam_json.proofs.Sizes.{read_size}
use Rattle.iam_json.proofs.laws.read_is_small.Goals as goal

pub returns : goal.returns
returns c = read_size
