use Rattle.std.proofs.Common.{below_more}
use Rattle.iam_decision.specs.Code.Found.{AllowsIn}
use Rattle.iam_decision.proofs.decide.levels_hold.Goals as goal

pub loop-level-preserved : goal.loop-level-preserved
loop-level-preserved c = below_more (AllowsIn c.args.found.now c.args.layer) c.loop-level.level c.loop-level.invariant (c.allows.ensures.0 c.if-not-allows.false)
