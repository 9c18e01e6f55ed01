use lib.Dec.{T}
use lib.Signed.{non_neg}
use Rattle.std.proofs.Common.{◌≡◌, ℤ, pos, ◌≤ℤ◌, Fits, FitsSigned, subst, sym, ap, ◌∙◌, arith}
use Rattle.std.specs.Int.{w16}
use Rattle.std.specs.Prelude.{unsigned_abs}
use Rattle.std.proofs.lemmas.Int.{ints, to_z-of_z}
use Rattle.jiff_core.specs.Calendar.{IsCivilDate, days_from_civil}
use Rattle.jiff_core.proofs.DateLemmas.{civil}
use Rattle.iam_value.proofs.Years.{year_fits, year_since, pos_unsigned_abs}
use Rattle.iam_value.proofs.dates.date_after.Goals as goal

number : (c : goal.After-struct_told-1) → days_from_civil c.from_days_since_min-date.result.year c.from_days_since_min-date.result.month c.from_days_since_min-date.result.day ≡ pos c.args.days
number c = omega (arith, ints, c.from_days_since_min-date.ensures)

since : (c : goal.After-struct_told-1) → pos 1970 ≤ℤ c.from_days_since_min-date.result.year
since c = let d = c.from_days_since_min-date.result in year_since d.year d.month d.day c.args.days (civil d) (number c)

pub overflow_cast-result : goal.overflow_cast-result
overflow_cast-result c =
    let low = since c in
    let d = c.from_days_since_min-date.result in
    let range = (civil d).0 in
    let fits : FitsSigned w16 d.year = omega (arith, ints) in
    subst (λ (y : ℤ). T (non_neg y) × Fits w16 (unsigned_abs y)) (sym (to_z-of_z w16 d.year fits)) (year_fits d.year (omega (arith, ints)) (omega (arith, ints)))

pub returns : goal.returns
returns c =
    let d = c.from_days_since_min-date.result in
    let low = since c in
    let range = (civil d).0 in
    let fits : FitsSigned w16 d.year = omega (arith, ints) in
    let same = ap (λ (y : ℤ). pos (unsigned_abs y)) (to_z-of_z w16 d.year fits) ∙ pos_unsigned_abs d.year (omega (arith, ints)) in
    subst (λ (y : ℤ). IsCivilDate y d.month d.day × (pos c.args.days ≡ days_from_civil y d.month d.day)) (sym same) (civil d, sym (number c))
