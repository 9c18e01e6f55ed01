use Rattle.iam_value.proofs.ranges.Range.all_of.Goals as goal

pub returns-in_err-address : goal.returns-in_err-address
returns-in_err-address c = rw c.from_residual.ensures (λ range is. c.in_err-address.ensures.value range.address is.0)
