use Rattle.std.proofs.Common.{rules}
use Rattle.iam_open_changes.proofs.NetworkLemmas.{is_network_of}
use Rattle.iam_open_changes.proofs.network.network_of.Goals as goal

pub returns : goal.returns
returns c = is_network_of c.args.range.now _ (search rules) (search rules) (search rules)
