use Rattle.iam_value.proofs.Times.{seconds_cut, seconds_whole}
use Rattle.iam_value.proofs.dates.seconds.Goals as goal

pub returns-in_err-field-in-Some-clause-value : goal.returns-in_err-field-in-Some-clause-value
returns-in_err-field-in-Some-clause-value c = rw c.from_residual.ensures (λ n is. let p = seconds_cut c.args.bytes.now c.in-Some.second.now c.in-Some.places.now n c.in-Some.ensures is in c.in_err-field-in-Some.ensures p.0 p.2)

pub returns-in_err-fraction-in-Some-clause-value : goal.returns-in_err-fraction-in-Some-clause-value
returns-in_err-fraction-in-Some-clause-value c = rw c.from_residual-in_err-fraction-in-Some.ensures (λ n is. let p = seconds_cut c.args.bytes.now c.in-Some.second.now c.in-Some.places.now n c.in-Some.ensures is in c.in_err-fraction-in-Some.ensures.value p.1 p.3)

pub returns-in_err-field-in-None-clause-value : goal.returns-in_err-field-in-None-clause-value
returns-in_err-field-in-None-clause-value c = rw c.from_residual-in_err-field-in-None.ensures (λ n is. let p = seconds_whole c.args.bytes.now n c.in-None.ensures is in c.in_err-field-in-None.ensures p.0 p.1)
