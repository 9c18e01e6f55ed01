-- An instant has one text.
use Rattle.std.proofs.Common.{◌≡◌, ℕ, ◌<◌, List, ℤ, pos, sym, ◌∙◌, arith}
use Rattle.std.proofs.lemmas.Int.{ints}
use Rattle.jiff_core.specs.declared.civil.date.Date.{Date}
use Rattle.jiff_core.proofs.DateLemmas.{epoch_day_injective}
use Rattle.iam_value.specs.Moment.{IsDayNumber, IsStamp}
use Rattle.iam_value.proofs.Stamps.{IsDateText, IsTimeText, IsWritten, stamp_is_written}

abbrev date_of : (year month day : ℕ) (number : ℤ) → IsDayNumber year month day number → Date
date_of year month day number is = record {
  year = pos year;
  month = month;
  day = day;
  year_in = is.0.0;
  month_in = is.0.1;
  day_in = is.0.2;
}

-- a day has one text
same_date : (number : ℤ) (text other : List ℕ) → IsDateText number text → IsDateText number other → text ≡ other
same_date number text other a b =
    let same =
    epoch_day_injective (date_of a.year a.month a.day number a.numbered) (date_of b.year b.month b.day number b.numbered)
    (sym a.numbered.1 ∙ b.numbered.1) in
    let year : a.year ≡ b.year = cc same.0 in
    a.written ∙ rw (year, same.1, same.2) (sym b.written)

-- a time of day has one text
same_time : (seconds : ℕ) (text other : List ℕ) → IsTimeText seconds text → IsTimeText seconds other → text ≡ other
same_time seconds text other a b =
    let hour : a.hour ≡ b.hour = omega (arith, a.sum, b.sum, a.in_day, b.in_day) in
    let minute : a.minute ≡ b.minute = omega (arith, a.sum, b.sum, a.in_day, b.in_day) in
    let second : a.second ≡ b.second = omega (arith, a.sum, b.sum, a.in_day, b.in_day) in
    a.written ∙ rw (hour, minute, second) (sym b.written)

-- and is less than a day
time_below : (seconds : ℕ) (text : List ℕ) → IsTimeText seconds text → seconds < 86400
time_below seconds text is = omega (arith, is.sum, is.in_day)

one_written : (seconds : ℤ) (text other : List ℕ) → IsWritten seconds text → IsWritten seconds other → text ≡ other
one_written seconds text other a b =
    let low = time_below a.rest a.time a.time_is in
    let high = time_below b.rest b.time b.time_is in
    let number : a.number ≡ b.number = omega (arith, ints, a.instant, b.instant, low, high) in
    let rest : a.rest ≡ b.rest = omega (arith, ints, a.instant, b.instant, number) in
    let date : a.date ≡ b.date = same_date b.number a.date b.date (rw number at a.date_is) b.date_is in
    let time : a.time ≡ b.time = same_time b.rest a.time b.time (rw rest at a.time_is) b.time_is in
    a.written ∙ rw (date, time) (sym b.written)

pub one_stamp : (seconds : ℤ) (text other : List ℕ) → IsStamp seconds text → IsStamp seconds other → text ≡ other
one_stamp seconds text other a b = one_written seconds text other (stamp_is_written seconds text a) (stamp_is_written seconds other b)
