use Rattle.std.proofs.Common.{inl, inr}
use Rattle.iam_classes.proofs.LaneLemmas.{and_lane, or_lane}
use Rattle.iam_classes.proofs.gather.Batch.grant_suffices.Goals as goal

pub returns-then-frame : goal.returns-then-frame
returns-then-frame c = λ k found below are.
    let role = and_lane _ _ k _ _ (c.lanes-then-frame.ensures k found below are) (c.requires k found below are) in
    let lane = or_lane _ _ k _ _ (c.lanes.ensures k found below are) role in (
      (λ one. (c.if-frame.true, elim (lane.0 one) [ inl direct ↦ inl direct | inr h ↦ inr (h.0, h.1.0, h.1.1) ])),
      (λ h. lane.1 (elim h.1 [ inl direct ↦ inl direct | inr all ↦ inr (all.0, (all.1, all.2)) ])),
    )
