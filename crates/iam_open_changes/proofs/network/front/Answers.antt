use Rattle.iam_open_changes.proofs.NetworkLemmas.{none_left}
use Rattle.iam_open_changes.proofs.network.front.Goals as goal

pub returns-then-apart-ge128 : goal.returns-then-apart-ge128
returns-then-apart-ge128 c = none_left c.args.number c.args.apart c.ranges.number.fits c.if-apart-ge128.true
