use Rattle.iam_json.proofs.Sizes.{get_size}
use Rattle.iam_json.proofs.laws.member_is_smaller.Goals as goal

pub returns : goal.returns
returns c = get_size
