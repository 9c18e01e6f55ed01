use Rattle.iam_classes.proofs.lanes.Decided.at.Goals as goal

pub returns-then-has-2 : goal.returns-then-has-2
returns-then-has-2 c = λ frame statements rows from count found are few acts. (
  (λ denies. let holds = c.has.ensures.1 ((are.denied c.args.k found few acts).1 denies) in let wrong : ⊥ = cc in wrong),
  (are.allowed c.args.k found few acts).0 (c.has-else-has.ensures.0 c.if-has-2.true),
)
