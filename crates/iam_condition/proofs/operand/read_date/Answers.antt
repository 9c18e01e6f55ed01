use Rattle.iam_condition.proofs.operand.read_date.Goals as goal

pub returns-in-None : goal.returns-in-None
returns-in-None c = λ order v is. c.in-None.ensures.value is.0 is.2
