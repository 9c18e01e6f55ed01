use Rattle.iam_value.proofs.Cuts.{not_lacking}
use Rattle.iam_value.proofs.Times.{shifted_cut}
use Rattle.iam_value.proofs.dates.shifted.Goals as goal

pub returns-in_err-time-clause-value : goal.returns-in_err-time-clause-value
returns-in_err-time-clause-value c = rw c.from_residual.ensures (λ n is. not_lacking c.args.sign c.args.bytes.now is.clock is.shift c.in_err-time.ensures is.written)

pub returns-in_err-time-2-clause-value : goal.returns-in_err-time-2-clause-value
returns-in_err-time-2-clause-value c = rw c.from_residual-in_err-time-2.ensures (λ n is. c.in_err-time-2.ensures.value n.0 (shifted_cut c.args.sign c.args.bytes.now c.in_ok-time.time.now c.in_ok-time.shift.now n.0 n.1 c.requires c.in_ok-time.ensures is).0)

pub returns-in_err-shift-clause-value : goal.returns-in_err-shift-clause-value
returns-in_err-shift-clause-value c = rw c.from_residual-in_err-shift.ensures (λ n is. c.in_err-shift.ensures.value n.1 (shifted_cut c.args.sign c.args.bytes.now c.in_ok-time.time.now c.in_ok-time.shift.now n.0 n.1 c.requires c.in_ok-time.ensures is).1)
