use Rattle.std.proofs.Common.{ℕ, ◌<◌}
use Rattle.iam_decision.specs.Code.Found.{AllowsIn}
use Rattle.iam_decision.proofs.decide.levels_hold.Given as goal

abbrev pub invariant-loop-level : goal.invariant-loop-level
invariant-loop-level l = (level : ℕ) → level < l.level → AllowsIn l.found l.layer level
