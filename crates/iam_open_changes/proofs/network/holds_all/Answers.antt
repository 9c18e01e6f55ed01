use Rattle.std.proofs.Common.{rules}
use Rattle.iam_open_changes.proofs.NetworkLemmas.{holds_all}
use Rattle.iam_open_changes.proofs.network.holds_all.Goals as goal

pub returns : goal.returns
returns c = λ t. holds_all c.args.range.now c.args.network c.requires (search rules) (search rules) (search rules)
