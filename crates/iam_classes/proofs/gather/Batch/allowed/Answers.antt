use Rattle.iam_classes.proofs.LaneLemmas.{and_lane, or_lane}
use Rattle.iam_classes.proofs.gather.Batch.allowed.Goals as goal

pub returns : goal.returns
returns c = λ k found below are.
    let levels = and_lane _ _ k _ _ (c.levels_hold.ensures k found below are) (c.levels_hold-2.ensures k found below are) in
    let rest = or_lane _ _ k _ _ (c.grant_suffices.ensures k found below are) (c.all_hold.ensures k found below are) in
    let lane = and_lane _ _ k _ _ levels rest in
    ((λ one. let h = lane.0 one in (h.0.0, h.0.1, h.1)), (λ h. lane.1 ((h.0, h.1), h.2)))
