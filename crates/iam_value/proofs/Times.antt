-- Dates and times, cut at their separators.
use Rattle.std.proofs.Common.{◌*◌, ◌+◌, ◌≡◌, ℕ, ◌<◌, ◌^◌, List, [], ◌∷◌, ◌++◌, ℤ, Option, sym, ◌∙◌, inl, inr, arith}
use Rattle.std.specs.Int.{IsInRange}
use Rattle.iam_value.specs.Pieces.{Lacks, IsCutAt}
use Rattle.iam_value.specs.Moment.{IsDigits, IsField, IsFraction, IsDayNumber, IsDay, IsSeconds, IsMinutes, IsClock, IsSpan, IsUtc, IsShifted, IsLocal, IsDateTime}
use Rattle.std.proofs.lemmas.Int.Digits.{digits_value-lt}
use Rattle.iam_value.specs.Reading.{IsReading}
use Rattle.iam_value.proofs.Cuts.{at_cut, not_lacking, digits_lack, lacks_both, same_reading}

-- the three numbers of a date
pub record DayParts (years months days : List ℕ) (number : ℤ) : Type 0 where
  pub year : ℕ
  pub month : ℕ
  pub day : ℕ
  pub year_is : IsDigits 4 years year
  pub month_is : IsDigits 2 months month
  pub day_is : IsDigits 2 days day
  pub numbered : IsDayNumber year month day number

-- what follows the first separator of a date
pub day_rest : (text front back : List ℕ) (number : ℤ) → IsCutAt 45 text front back → (is : IsDay text number) → (is.years ≡ front) × (is.months ++ 45 ∷ is.days ≡ back)
day_rest text front back number cut is = at_cut 45 text front back is.years (is.months ++ 45 ∷ is.days) cut is.written (digits_lack 45 is.years is.year_is.1.1 (λ r. omega arith))

pub day_parts : (text years rest months days : List ℕ) (number : ℤ) → IsCutAt 45 text years rest → IsCutAt 45 rest months days → IsDay text number → DayParts years months days number
day_parts text years rest months days number first second is =
    let a = day_rest text years rest number first is in
    let b = at_cut 45 rest months days is.months is.days second (sym a.1) (digits_lack 45 is.months is.month_is.1.1 (λ r. omega arith)) in
    record {
      year = is.year;
      month = is.month;
      day = is.day;
      year_is = rw a.0 at is.year_is;
      month_is = rw b.0 at is.month_is;
      day_is = rw b.1 at is.day_is;
      numbered = is.numbered;
    }

-- the day of parts that were read
pub day_from_parts : (text years rest months days : List ℕ) (year month day : ℕ) (answer : Option ℤ) → IsCutAt 45 text years rest → IsCutAt 45 rest months days → IsDigits 4 years year → IsDigits 2 months month → IsDigits 2 days day → IsReading answer (IsDayNumber year month day) → IsReading answer (IsDay text)
day_from_parts text years rest months days year month day answer first second y m d = same_reading answer (IsDayNumber year month day) (IsDay text)
    (λ number is. record {
      years = years;
      months = months;
      days = days;
      year = year;
      month = month;
      day = day;
      written = rw second.0 at first.0;
      year_is = y;
      month_is = m;
      day_is = d;
      numbered = is;
    })
    (λ number is.
    let p = day_parts text years rest months days number first second is in
    rw (p.year_is.2 ∙ sym y.2, p.month_is.2 ∙ sym m.2, p.day_is.2 ∙ sym d.2) at p.numbered)

-- digits write a number below a power of ten
pub digits_below : (count : ℕ) (text : List ℕ) (n : ℕ) → IsDigits count text n → n < 10 ^ count
digits_below count text n is =
    let small = rw is.0 at (digits_value-lt 10 text is.1.1) in
    omega (arith, small, is.2)

-- seconds with a point, and without
pub seconds_cut : (text front back : List ℕ) (nanos : ℕ) → IsCutAt 46 text front back → IsSeconds text nanos → (second : ℕ) × (part : ℕ) × IsField 59 front second × IsFraction back part × (nanos ≡ second * 1_000_000_000 + part)
seconds_cut text front back nanos cut is = elim is [
  | inl w ↦ absurd (not_lacking 46 text front back (digits_lack 46 text w.1.0.1.1 (λ r. omega arith)) cut.0)
  | inr w ↦
      let a = at_cut 46 text front back w.front w.back cut w.written (digits_lack 46 w.front w.count_is.0.1.1 (λ r. omega arith)) in
      (w.count, w.rest, rw a.0 at w.count_is, rw a.1 at w.rest_is, w.sum)
]

pub seconds_whole : (text : List ℕ) (nanos : ℕ) → Lacks 46 text → IsSeconds text nanos → (second : ℕ) × IsField 59 text second
seconds_whole text nanos lacks is = elim is [
  | inl w ↦ (w.0, w.1)
  | inr w ↦ absurd (not_lacking 46 text w.front w.back lacks w.written)
]

-- minutes with seconds, and without
pub minutes_cut : (text front back : List ℕ) (nanos : ℕ) → IsCutAt 58 text front back → IsMinutes text nanos → (minute : ℕ) × (rest : ℕ) × IsField 59 front minute × IsSeconds back rest × (nanos ≡ minute * 60_000_000_000 + rest)
minutes_cut text front back nanos cut is = elim is [
  | inl w ↦ absurd (not_lacking 58 text front back (digits_lack 58 text w.1.0.1.1 (λ r. omega arith)) cut.0)
  | inr w ↦
      let a = at_cut 58 text front back w.front w.back cut w.written (digits_lack 58 w.front w.count_is.0.1.1 (λ r. omega arith)) in
      (w.count, w.rest, rw a.0 at w.count_is, rw a.1 at w.rest_is, w.sum)
]

pub minutes_whole : (text : List ℕ) (nanos : ℕ) → Lacks 58 text → IsMinutes text nanos → (minute : ℕ) × IsField 59 text minute
minutes_whole text nanos lacks is = elim is [
  | inl w ↦ (w.0, w.1)
  | inr w ↦ absurd (not_lacking 58 text w.front w.back lacks w.written)
]

-- hours, and what follows them
pub clock_cut : (text front back : List ℕ) (nanos : ℕ) → IsCutAt 58 text front back → IsClock text nanos → (hour : ℕ) × (rest : ℕ) × IsField 23 front hour × IsMinutes back rest × (nanos ≡ hour * 3_600_000_000_000 + rest)
clock_cut text front back nanos cut is =
    let a = at_cut 58 text front back is.front is.back cut is.written (digits_lack 58 is.front is.count_is.0.1.1 (λ r. omega arith)) in
    (is.count, is.rest, rw a.0 at is.count_is, rw a.1 at is.rest_is, is.sum)

pub span_cut : (text front back : List ℕ) (minutes : ℕ) → IsCutAt 58 text front back → IsSpan text minutes → (hour : ℕ) × (minute : ℕ) × IsField 23 front hour × IsField 59 back minute × (minutes ≡ hour * 60 + minute)
span_cut text front back minutes cut is =
    let a = at_cut 58 text front back is.front is.back cut is.written (digits_lack 58 is.front is.count_is.0.1.1 (λ r. omega arith)) in
    (is.count, is.rest, rw a.0 at is.count_is, rw a.1 at is.rest_is, is.sum)

-- digits, of a count
field_lacks : (d most n : ℕ) (text : List ℕ) → ¬ (IsInRange 46 58 d) → IsField most text n → Lacks d text
field_lacks d most n text outside is = digits_lack d text is.0.1.1 (λ r. outside (omega arith, omega arith))

-- the signs of a time of day are digits, points and colons
seconds_lack : (d n : ℕ) (text : List ℕ) → ¬ (IsInRange 46 58 d) → IsSeconds text n → Lacks d text
seconds_lack d n text outside is = elim is [
  | inl w ↦ field_lacks d 59 w.0 text outside w.1
  | inr w ↦ rw w.written (lacks_both d 46 w.front w.back (field_lacks d 59 w.count w.front outside w.count_is) (λ e. outside (omega arith, omega arith)) (digits_lack d w.back w.rest_is.0.1 (λ r. outside (omega arith, omega arith))))
]

minutes_lack : (d n : ℕ) (text : List ℕ) → ¬ (IsInRange 46 58 d) → IsMinutes text n → Lacks d text
minutes_lack d n text outside is = elim is [
  | inl w ↦ field_lacks d 59 w.0 text outside w.1
  | inr w ↦ rw w.written (lacks_both d 58 w.front w.back (field_lacks d 59 w.count w.front outside w.count_is) (λ e. outside (omega arith, omega arith)) (seconds_lack d w.rest w.back outside w.rest_is))
]

pub clock_lacks : (d n : ℕ) (text : List ℕ) → ¬ (IsInRange 46 58 d) → IsClock text n → Lacks d text
clock_lacks d n text outside is = rw is.written (lacks_both d 58 is.front is.back (field_lacks d 23 is.count is.front outside is.count_is) (λ e. outside (omega arith, omega arith)) (minutes_lack d is.rest is.back outside is.rest_is))

-- those of a date are digits and hyphens
pub day_lacks : (d : ℕ) (number : ℤ) (text : List ℕ) → ¬ (IsInRange 45 58 d) → IsDay text number → Lacks d text
day_lacks d number text outside is =
    let digits = λ (count n : ℕ) (part : List ℕ) (q : IsDigits count part n). digits_lack d part q.1.1 (λ r. outside (omega arith, omega arith)) in
    rw is.written (lacks_both d 45 is.years (is.months ++ 45 ∷ is.days) (digits 4 is.year is.years is.year_is) (λ e. outside (omega arith, omega arith)) (lacks_both d 45 is.months is.days (digits 2 is.month is.months is.month_is) (λ e. outside (omega arith, omega arith)) (digits 2 is.day is.days is.day_is)))

-- a time of day in UTC, cut at `Z`
pub utc_cut : (text front back : List ℕ) (time : ℕ) → IsCutAt 90 text front back → IsUtc text time → (back ≡ []) × IsClock front time
utc_cut text front back time cut is =
    let a = at_cut 90 text front back is.0 [] cut is.1 (clock_lacks 90 time is.0 (λ r. omega arith) is.2) in
    (sym a.1, rw a.0 at is.2)

-- one with a sign, cut at it
pub shifted_cut : (sign : ℕ) (text front back : List ℕ) (time span : ℕ) → sign < 46 → IsCutAt sign text front back → IsShifted sign text time span → IsClock front time × IsSpan back span
shifted_cut sign text front back time span low cut is =
    let a = at_cut sign text front back is.clock is.shift cut is.written (clock_lacks sign time is.clock (λ r. omega arith) is.time_is) in
    (rw a.0 at is.time_is, rw a.1 at is.span_is)

-- a date with a time, cut at `T`
pub date_time_cut : (text front back : List ℕ) (nanos : ℤ) → IsCutAt 84 text front back → (is : IsDateTime text nanos) → IsDay front is.number × IsLocal back is.time is.offset
date_time_cut text front back nanos cut is =
    let a = at_cut 84 text front back is.date is.rest cut is.written (day_lacks 84 is.number is.date (λ r. omega arith) is.date_is) in
    (rw a.0 at is.date_is, rw a.1 at is.rest_is)
