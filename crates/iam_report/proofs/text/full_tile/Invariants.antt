use Rattle.std.proofs.Common.{◌≡◌, take}
use Rattle.iam_report.proofs.text.full_tile.Given as goal

abbrev pub invariant-loop-verdict : goal.invariant-loop-verdict
invariant-loop-verdict l = l.kept ≡ take l.verdict-index l.verdicts
