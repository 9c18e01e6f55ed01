use Rattle.iam_value.proofs.Times.{span_cut}
use Rattle.iam_value.proofs.dates.span.Goals as goal

pub returns-in_err-hour-2-clause-value : goal.returns-in_err-hour-2-clause-value
returns-in_err-hour-2-clause-value c = rw c.from_residual-in_err-hour-2.ensures (λ n is. let p = span_cut c.args.bytes.now c.in_ok-hour.hour.now c.in_ok-hour.minute.now n c.in_ok-hour.ensures is in c.in_err-hour-2.ensures p.0 p.2)

pub returns-in_err-minute-clause-value : goal.returns-in_err-minute-clause-value
returns-in_err-minute-clause-value c = rw c.from_residual-in_err-minute.ensures (λ n is. let p = span_cut c.args.bytes.now c.in_ok-hour.hour.now c.in_ok-hour.minute.now n c.in_ok-hour.ensures is in c.in_err-minute.ensures p.1 p.3)
