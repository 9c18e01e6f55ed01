use Rattle.std.proofs.Common.{◌++◌, ◌∷◌, sym, arith}
use Rattle.iam_value.proofs.Cuts.{not_lacking}
use Rattle.iam_value.proofs.Times.{day_rest, day_parts, day_from_parts, digits_below}
use Rattle.iam_value.proofs.dates.day.Goals as goal

pub returns-in_err-years : goal.returns-in_err-years
returns-in_err-years c = rw c.from_residual.ensures (λ n is. not_lacking 45 c.args.bytes.now is.years (is.months ++ 45 ∷ is.days) c.in_err-years.ensures is.written)

pub returns-in_err-months : goal.returns-in_err-months
returns-in_err-months c = rw c.from_residual-in_err-months.ensures (λ n is. not_lacking 45 c.in_ok-years.rest.now is.months is.days c.in_err-months.ensures (sym (day_rest c.args.bytes.now c.in_ok-years.years.now c.in_ok-years.rest.now n c.in_ok-years.ensures is).1))

pub returns-in_err-year : goal.returns-in_err-year
returns-in_err-year c = rw c.from_residual-in_err-year.ensures (λ n is. let p = day_parts c.args.bytes.now c.in_ok-years.years.now c.in_ok-years.rest.now c.in_ok-months.months.now c.in_ok-months.days.now n c.in_ok-years.ensures c.in_ok-months.ensures is in c.in_err-year.ensures p.year p.year_is)

pub returns-in_err-month : goal.returns-in_err-month
returns-in_err-month c = rw c.from_residual-in_err-month.ensures (λ n is. let p = day_parts c.args.bytes.now c.in_ok-years.years.now c.in_ok-years.rest.now c.in_ok-months.months.now c.in_ok-months.days.now n c.in_ok-years.ensures c.in_ok-months.ensures is in c.in_err-month.ensures p.month p.month_is)

pub returns-in_err-day : goal.returns-in_err-day
returns-in_err-day c = rw c.from_residual-in_err-day.ensures (λ n is. let p = day_parts c.args.bytes.now c.in_ok-years.years.now c.in_ok-years.rest.now c.in_ok-months.months.now c.in_ok-months.days.now n c.in_ok-years.ensures c.in_ok-months.ensures is in c.in_err-day.ensures p.day p.day_is)

pub day_number-requires-clause-year : goal.day_number-requires-clause-year
day_number-requires-clause-year c = omega (arith, digits_below 4 c.in_ok-years.years.now c.in_ok-year.year c.in_ok-year.ensures)

pub day_number-requires-clause-month : goal.day_number-requires-clause-month
day_number-requires-clause-month c = omega (arith, digits_below 2 c.in_ok-months.months.now c.in_ok-month.month c.in_ok-month.ensures)

pub day_number-requires-clause-day : goal.day_number-requires-clause-day
day_number-requires-clause-day c = omega (arith, digits_below 2 c.in_ok-months.days.now c.in_ok-day.day c.in_ok-day.ensures)

pub returns : goal.returns
returns c = day_from_parts c.args.bytes.now c.in_ok-years.years.now c.in_ok-years.rest.now c.in_ok-months.months.now c.in_ok-months.days.now c.in_ok-year.year c.in_ok-month.month c.in_ok-day.day c.day_number.result c.in_ok-years.ensures c.in_ok-months.ensures c.in_ok-year.ensures c.in_ok-month.ensures c.in_ok-day.ensures c.day_number.ensures
