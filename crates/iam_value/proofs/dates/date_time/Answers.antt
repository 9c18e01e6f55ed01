use Rattle.iam_value.proofs.Cuts.{not_lacking}
use Rattle.iam_value.proofs.Times.{date_time_cut}
use Rattle.iam_value.proofs.dates.date_time.Goals as goal

pub returns-in_err-date : goal.returns-in_err-date
returns-in_err-date c = rw c.from_residual.ensures (λ n is. not_lacking 84 c.args.bytes.now is.date is.rest c.in_err-date.ensures is.written)

pub returns-in_err-number : goal.returns-in_err-number
returns-in_err-number c = rw c.from_residual-in_err-number.ensures (λ n is. c.in_err-number.ensures is.number (date_time_cut c.args.bytes.now c.in_ok-date.date.now c.in_ok-date.rest.now n c.in_ok-date.ensures is).0)

pub returns-in_err-time : goal.returns-in_err-time
returns-in_err-time c = rw c.from_residual-in_err-time.ensures (λ n is. c.in_err-time.ensures.value (is.time, is.offset) (date_time_cut c.args.bytes.now c.in_ok-date.date.now c.in_ok-date.rest.now n c.in_ok-date.ensures is).1)
