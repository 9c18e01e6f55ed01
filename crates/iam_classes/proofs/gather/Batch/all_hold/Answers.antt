use Rattle.std.proofs.Common.{◌≡◌, ◌⊎◌, ◌↔◌, inl, inr, refl, Bool, true, false, IsTrue}
use Rattle.iam_classes.proofs.LaneLemmas.{and_lane}
use Rattle.iam_classes.proofs.gather.Batch.all_hold.Goals as goal

-- where it is not asked it holds
where_asked : (asked : Bool) (A G : Type 0) → (IsTrue asked ↔ A) → ((asked ≡ false) ⊎ G) ↔ (A → G)
where_asked true A G is = ((λ h a. elim h [ inl off ↦ (let wrong : ⊥ = cc in absurd wrong) | inr g ↦ g ]), (λ g. inr (g (is.0 refl))))
where_asked false A G is = ((λ h a. let holds = is.1 a in let wrong : ⊥ = cc in absurd wrong), (λ g. inl refl))

pub returns : goal.returns
returns c = λ k found below are.
    let both = and_lane _ _ k _ _ (c.lanes.ensures k found below are) (c.requires k found below are) in
    let lane = and_lane _ _ k _ _ both (c.where_asked.ensures k found below are) in
    let grant = where_asked c.must_grant.result _ _ c.must_grant.ensures in (
      (λ one. let h = lane.0 one in (h.0.0, h.0.1.0, h.0.1.1, grant.0 h.1)),
      (λ h. lane.1 ((h.0, (h.1, h.2)), grant.1 h.3)),
    )
