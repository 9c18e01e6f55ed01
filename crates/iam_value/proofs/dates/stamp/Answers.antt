use Rattle.std.proofs.lemmas.Result.{IfOk-weaker}
use Rattle.std.proofs.Common.{◌≡◌, ◌/◌, ◌%◌, ◌++◌, codes, string_bytes, ◌<◌, pos, FitsSigned, sym, ◌∙◌, inr, arith}
use Rattle.std.specs.Int.{w64}
use Rattle.std.specs.Prelude.{unsigned_abs}
use Rattle.std.specs.Fmt.{styled_decimal}
use Rattle.std.proofs.lemmas.Int.{ints, to_z-of_z}
use mir.Val.{to_z, of_z}
use Rattle.jiff_core.proofs.CalendarLemmas.{days_in_month_bounds}
use Rattle.iam_value.proofs.Years.{pos_unsigned_abs}
use Rattle.iam_value.proofs.Stamps.{two_shown, four_shown, stamped, written_is_stamp}
use Rattle.iam_value.proofs.dates.stamp.Goals as goal

pub returns-clause-written : goal.returns-clause-written
returns-clause-written c = IfOk-weaker c.format.result _ _ (λ s text.
    let n = unsigned_abs (to_z w64 (of_z w64 c.args.seconds)) in
    let year = c.date_after-year.result.0 in
    let month = c.date_after-year.result.1 in
    let day = c.date_after-year.result.2 in
    let fits : FitsSigned w64 c.args.seconds = c.ranges.seconds in
    let is = pos_unsigned_abs (to_z w64 (of_z w64 c.args.seconds)) (omega (arith, ints)) in
    let known : string_bytes s ≡ styled_decimal c.laid_out.result year ++ (codes "-" ++ (styled_decimal c.laid_out-2.result month ++ (codes "-" ++ (styled_decimal c.laid_out-3.result day ++ (codes "T" ++ (styled_decimal c.laid_out-4.result (n / 3_600 % 24) ++ (codes ":" ++ (styled_decimal c.laid_out-5.result (n / 60 % 60) ++ (codes ":" ++ (styled_decimal c.laid_out-6.result (n % 60) ++ codes "Z")))))))))) = text in
    let date = c.date_after-year.ensures in
    let year_small : year < 10_000 = omega (arith, ints, date.0.0) in
    let month_small : month < 100 = omega (arith, date.0.1) in
    let day_small : day < 100 = omega (arith, date.0.2, (days_in_month_bounds (pos year) month).0) in
    let written = rw (c.laid_out.ensures, c.laid_out-2.ensures, c.laid_out-3.ensures, c.laid_out-4.ensures, c.laid_out-5.ensures, c.laid_out-6.ensures, four_shown year year_small, two_shown month month_small, two_shown day day_small, two_shown (n / 3_600 % 24) (omega arith), two_shown (n / 60 % 60) (omega arith), two_shown (n % 60) (omega arith)) at known in
    written_is_stamp c.args.seconds (string_bytes s) (stamped c.args.seconds n year month day (string_bytes s) (sym (is ∙ to_z-of_z w64 c.args.seconds fits)) date written))
    c.format.ensures.ok

pub returns-clause-instant : goal.returns-clause-instant
returns-clause-instant c = IfOk-weaker c.format.result _ _ (λ s is. inr (inr is.1)) (returns-clause-written c)
