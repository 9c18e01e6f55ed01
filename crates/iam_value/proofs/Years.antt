-- The years of the days from 1970 on.
use lib.Dec.{T}
use lib.Signed.{non_neg}
use Rattle.std.specs.Int.{w16}
use Rattle.std.proofs.Common.{◌≡◌, ℕ, ℤ, pos, negsuc, ◌≤ℤ◌, Fits, refl, arith}
use Rattle.std.proofs.lemmas.Int.{ints, by_lt_z}
use Rattle.std.specs.Prelude.{unsigned_abs}
use Rattle.jiff_core.specs.Calendar.{IsCivilDate, days_from_civil}
use Rattle.jiff_core.proofs.CalendarLemmas.{day_count-epoch, days_from_civil-day_count, day_count-lt_year}

-- a day from 1970-01-01 on is of 1970 or of a later year
pub year_since : (year : ℤ) (month day n : ℕ) → IsCivilDate year month day → days_from_civil year month day ≡ pos n → pos 1970 ≤ℤ year
year_since year month day n civil is = by_lt_z year (pos 1970) (λ less. absurd (omega (arith, ints, rw is at (days_from_civil-day_count year month day), day_count-epoch, day_count-lt_year year month day (pos 1970) 1 1 civil (omega arith) less))) (λ since. since)

-- a year without its sign
pub pos_unsigned_abs : (year : ℤ) → pos 0 ≤ℤ year → pos (unsigned_abs year) ≡ year
pos_unsigned_abs (pos n) since = refl
pos_unsigned_abs (negsuc n) since = absurd (omega (arith, ints))

-- such a year fits 16 bits without a sign
pub year_fits : (year : ℤ) → pos 0 ≤ℤ year → year ≤ℤ pos 9999 → T (non_neg year) × Fits w16 (unsigned_abs year)
year_fits (pos n) since until = (tt, omega (arith, ints))
year_fits (negsuc n) since until = absurd (omega (arith, ints))
