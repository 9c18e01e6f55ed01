use Rattle.std.proofs.Common.{◌-◌}
use Rattle.iam_open_changes.proofs.network.+are_held.Given as goal

-- how many bits are left
abbrev pub decreases-are_held : goal.decreases-are_held
decreases-are_held l = l.network.width - l.network.prefix
