use Rattle.iam_condition.proofs.operand.read_range.Goals as goal

pub returns-in-None : goal.returns-in-None
returns-in-None c = λ v is. c.in-None.ensures.value is.0 is.2
