use Rattle.iam_value.proofs.Cuts.{not_lacking}
use Rattle.iam_value.proofs.Times.{clock_cut}
use Rattle.iam_value.proofs.dates.clock.Goals as goal

pub returns-in_err-hour-clause-value : goal.returns-in_err-hour-clause-value
returns-in_err-hour-clause-value c = rw c.from_residual.ensures (λ n is. not_lacking 58 c.args.bytes.now is.front is.back c.in_err-hour.ensures is.written)

pub returns-in_err-field-clause-value : goal.returns-in_err-field-clause-value
returns-in_err-field-clause-value c = rw c.from_residual-in_err-field.ensures (λ n is. let p = clock_cut c.args.bytes.now c.in_ok-hour.hour.now c.in_ok-hour.rest.now n c.in_ok-hour.ensures is in c.in_err-field.ensures p.0 p.2)

pub returns-in_err-rest-clause-value : goal.returns-in_err-rest-clause-value
returns-in_err-rest-clause-value c = rw c.from_residual-in_err-rest.ensures (λ n is. let p = clock_cut c.args.bytes.now c.in_ok-hour.hour.now c.in_ok-hour.rest.now n c.in_ok-hour.ensures is in c.in_err-rest.ensures.value p.1 p.3)
