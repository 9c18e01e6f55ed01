use Rattle.std.proofs.Common.{◌≡◌, take}
use Rattle.iam_report.proofs.text.brief_tile.Given as goal

abbrev pub invariant-loop-decision : goal.invariant-loop-decision
invariant-loop-decision l = l.kept ≡ take l.decision-index l.decisions
