use Rattle.iam_every.proofs.groups.new_side.Goals as goal

pub returns-then-not-has_element-clause-none : goal.returns-then-not-has_element-clause-none
returns-then-not-has_element-clause-none c = λ _ has. let yes = (c.has_element.ensures c.args.standing.place).1 has in absurd (let wrong : ⊥ = cc in wrong)

pub returns-else-is_among-clause-some : goal.returns-else-is_among-clause-some
returns-else-is_among-clause-some c = (
  c.side_of-side.ensures,
  (c.has_element.ensures c.args.standing.place).0 c.if-not-has_element.false,
  λ in'. let yes = c.is_among.ensures.1 in' in let no = c.if-is_among.false in let wrong : ⊥ = cc in wrong,
)
