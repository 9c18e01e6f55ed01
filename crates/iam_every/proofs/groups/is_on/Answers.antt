use Rattle.iam_every.proofs.groups.is_on.Goals as goal

pub returns-then-has_element : goal.returns-then-has_element
returns-then-has_element c = (
  λ yes. ((c.has_element.ensures c.args.standing.place).0 c.if-has_element.true, c.counts_on.ensures.0 yes),
  λ (has, on). c.counts_on.ensures.1 on,
)

pub returns-else-has_element : goal.returns-else-has_element
returns-else-has_element c = (
  λ yes. absurd (let no = c.if-has_element.false in let wrong : ⊥ = cc in wrong),
  λ (has, on). let yes = (c.has_element.ensures c.args.standing.place).1 has in absurd (let no = c.if-has_element.false in let wrong : ⊥ = cc in wrong),
)
