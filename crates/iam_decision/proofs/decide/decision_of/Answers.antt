use Rattle.iam_decision.proofs.decide.decision_of.Goals as goal

pub returns-then-is_allowed : goal.returns-then-is_allowed
returns-then-is_allowed c =
    ((λ denies. let holds = c.denies.ensures.1 denies in let wrong : ⊥ = cc in wrong), c.is_allowed.ensures.0 c.if-is_allowed.true)
