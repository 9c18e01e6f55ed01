use Rattle.std.proofs.Common.{below_more, arith}
use Rattle.iam_decision.specs.Code.Found.{AllowsIn}
use Rattle.iam_classes.proofs.LaneLemmas.{all_lane, and_lane}
use Rattle.iam_classes.proofs.gather.Batch.levels_hold.Goals as goal

pub loop-level-init : goal.loop-level-init
loop-level-init c = λ k found below are. all_lane c.args.self.count k _ c.args.self.few below (λ level under. absurd (omega (arith, under)))

-- one more level of the layer allows
pub loop-level-preserved : goal.loop-level-preserved
loop-level-preserved c = λ k found below are.
    let level = c.loop-level.level in
    let lane = and_lane _ _ k _ _ (c.loop-level.invariant k found below are) (c.lanes-lanes.ensures k found below are) in (
      (λ one. let h = lane.0 one in below_more (AllowsIn found c.args.layer) level h.0 h.1),
      (λ all. lane.1 ((λ lower under. all lower (omega (arith, under))), all level (omega arith))),
    )
