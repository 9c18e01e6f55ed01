-- The texts of instants: how numbers are written in two and four digits, what such texts are read as, and that they alone have twenty
-- characters.
use Rattle.std.proofs.Common.{◌≡◌, ℕ, ◌+◌, ◌*◌, ◌/◌, ◌%◌, ◌^◌, ◌-◌, ◌<◌, ◌≤◌, List, [], ◌∷◌, ◌++◌, length, ℤ, pos, ◌+ℤ◌, ◌*ℤ◌, refl, ap, ◌∙◌, inl, inr, ⊎_elim, codes, arith}
use Rattle.std.specs.Fmt.{decimal, styled_decimal, format_spec, padded_integral, char_count}
use Rattle.std.specs.Int.{IsInRange}
use Rattle.std.proofs.lemmas.Fmt.{decimal_digit, decimal_step}
use Rattle.std.proofs.lemmas.Bool.{cases_lt}
use Rattle.std.proofs.lemmas.Int.{ints}
use Rattle.std.proofs.lemmas.List.{length-append}
use Rattle.std.proofs.lemmas.Str.{digit_value_digit}
use Rattle.std.proofs.lemmas.Str.Parse.{digit_at}
use Rattle.jiff_core.proofs.CalendarLemmas.{days_in_month_bounds}
use Rattle.iam_value.specs.Moment.{IsDigits, IsDayNumber, IsDay, IsClock, IsSeconds, IsShifted, IsStamp}

-- a number below 100 in two digits
abbrev pub two_digits : ℕ → List ℕ
two_digits n = (48 + n / 10) ∷ (48 + n % 10) ∷ []

-- a number below 10000 in four digits
abbrev pub four_digits : ℕ → List ℕ
four_digits n = two_digits (n / 100) ++ two_digits (n % 100)

-- the text `YYYY-MM-DD` of a day with that number
pub record IsDateText (number : ℤ) (text : List ℕ) : Type 0 where
  pub year : ℕ
  pub month : ℕ
  pub day : ℕ
  pub numbered : IsDayNumber year month day number
  pub written :
      text ≡ four_digits year ++ (codes "-" ++ (two_digits month ++ (codes "-" ++ two_digits day)))

-- the text `hh:mm:ss` of a time of day that many seconds from midnight
pub record IsTimeText (seconds : ℕ) (text : List ℕ) : Type 0 where
  pub hour : ℕ
  pub minute : ℕ
  pub second : ℕ
  pub in_day : (hour ≤ 23) × (minute ≤ 59) × (second ≤ 59)
  pub sum : seconds ≡ hour * 3_600 + minute * 60 + second
  pub written :
      text ≡ two_digits hour ++ (codes ":" ++ (two_digits minute ++ (codes ":" ++ two_digits second)))

-- so the instant that many seconds after 1970-01-01T00:00:00Z is written, `YYYY-MM-DDThh:mm:ssZ`
pub record IsWritten (seconds : ℤ) (text : List ℕ) : Type 0 where
  pub date : List ℕ
  pub time : List ℕ
  pub number : ℤ
  pub rest : ℕ
  pub date_is : IsDateText number date
  pub time_is : IsTimeText rest time
  pub written : text ≡ date ++ (codes "T" ++ (time ++ codes "Z"))
  pub instant : seconds ≡ number *ℤ pos 86_400 +ℤ pos rest

-- a number below 100, as `decimal` writes it
decimal_two : (n : ℕ) → 10 ≤ n → n < 100 → decimal n ≡ (48 + n / 10) ∷ (48 + n % 10) ∷ []
decimal_two n low high = rw (decimal_step n low (omega arith), decimal_digit (n / 10) (omega arith))

decimal_three : (n : ℕ) → 100 ≤ n → n < 1000 → decimal n ≡ (48 + n / 10 / 10) ∷ (48 + n / 10 % 10) ∷ (48 + n % 10) ∷ []
decimal_three n low high = rw (decimal_step n (omega arith) (omega arith), decimal_two (n / 10) (omega arith) (omega arith))

decimal_four : (n : ℕ) → 1000 ≤ n → n < 10000 → decimal n ≡ (48 + n / 10 / 10 / 10) ∷ (48 + n / 10 / 10 % 10) ∷ (48 + n / 10 % 10) ∷ (48 + n % 10) ∷ []
decimal_four n low high = rw (decimal_step n (omega arith) (omega arith), decimal_three (n / 10) (omega arith) (omega arith))

-- what `{:02}` writes
pub two_shown : (n : ℕ) → n < 100 → styled_decimal (format_spec 32 0 4 2 (2 ^ 64 - 1)) n ≡ two_digits n
unfolding padded_integral char_count
two_shown n small = ⊎_elim
    (λ one. let high : n / 10 ≡ 0 = omega arith in let low : n % 10 ≡ n = omega arith in rw (decimal_digit n one, high, low))
    (λ two. rw (decimal_two n two small))
    (cases_lt n 10)

-- what `{:04}` writes
pub four_shown : (n : ℕ) → n < 10000 → styled_decimal (format_spec 32 0 4 4 (2 ^ 64 - 1)) n ≡ four_digits n
unfolding padded_integral char_count
four_shown n small =
    let a : n / 100 / 10 ≡ n / 10 / 10 / 10 = omega arith in
    let b : n / 100 % 10 ≡ n / 10 / 10 % 10 = omega arith in
    let c : n % 100 / 10 ≡ n / 10 % 10 = omega arith in
    let d : n % 100 % 10 ≡ n % 10 = omega arith in
    ⊎_elim
    (λ one.
    let e : n / 10 / 10 / 10 ≡ 0 = omega arith in
    let f : n / 10 / 10 % 10 ≡ 0 = omega arith in
    let g : n / 10 % 10 ≡ 0 = omega arith in
    let h : n % 10 ≡ n = omega arith in
    rw (decimal_digit n one, a, b, c, d, e, f, g, h))
    (λ more. ⊎_elim
    (λ two.
    let e : n / 10 / 10 / 10 ≡ 0 = omega arith in
    let f : n / 10 / 10 % 10 ≡ 0 = omega arith in
    let g : n / 10 % 10 ≡ n / 10 = omega arith in
    rw (decimal_two n more two, a, b, c, d, e, f, g))
    (λ large. ⊎_elim
    (λ three.
    let e : n / 10 / 10 / 10 ≡ 0 = omega arith in
    let f : n / 10 / 10 % 10 ≡ n / 10 / 10 = omega arith in
    rw (decimal_three n large three, a, b, c, d, e, f))
    (λ four. rw (decimal_four n four small, a, b, c, d))
    (cases_lt n 1000))
    (cases_lt n 100))
    (cases_lt n 10)

-- the text of the day and of the time of day that n seconds are
pub stamped : (z : ℤ) (n year month day : ℕ) (text : List ℕ) → z ≡ pos n → IsDayNumber year month day (pos (n / 86_400)) → text ≡ four_digits year ++ (codes "-" ++ (two_digits month ++ (codes "-" ++ (two_digits day ++ (codes "T" ++ (two_digits (n / 3_600 % 24) ++ (codes ":" ++ (two_digits (n / 60 % 60) ++ (codes ":" ++ (two_digits (n % 60) ++ codes "Z")))))))))) → IsWritten z text
stamped z n year month day text is numbered written = record {
  date = four_digits year ++ (codes "-" ++ (two_digits month ++ (codes "-" ++ two_digits day)));
  time = two_digits (n / 3_600 % 24) ++ (codes ":" ++ (two_digits (n / 60 % 60) ++ (codes ":" ++ two_digits (n % 60))));
  number = pos (n / 86_400);
  rest = (n / 3_600 % 24) * 3_600 + (n / 60 % 60) * 60 + n % 60;
  date_is = record { year = year; month = month; day = day; numbered = numbered; written = refl };
  time_is = record {
    hour = n / 3_600 % 24;
    minute = n / 60 % 60;
    second = n % 60;
    in_day = (omega arith, omega arith, omega arith);
    sum = refl;
    written = refl;
  };
  written = written;
  instant = is ∙ ap pos (parts n);
}
  where
    parts : (n : ℕ) → n ≡ n / 86_400 * 86_400 + ((n / 3_600 % 24) * 3_600 + (n / 60 % 60) * 60 + n % 60)
    parts n = omega arith

-- such digits are read as the number
pub two_is : (n : ℕ) → n < 100 → IsDigits 2 (two_digits n) n
two_is n small =
    let tens = digit_value_digit (48 + n / 10) (omega arith, omega arith) in
    let ones = digit_value_digit (48 + n % 10) (omega arith, omega arith) in
    (refl, (omega arith, (omega (arith, tens), (omega (arith, ones), tt))), omega (arith, tens, ones))

pub four_is : (n : ℕ) → n < 10000 → IsDigits 4 (four_digits n) n
four_is n small =
    let a = digit_value_digit (48 + n / 100 / 10) (omega arith, omega arith) in
    let b = digit_value_digit (48 + n / 100 % 10) (omega arith, omega arith) in
    let c = digit_value_digit (48 + n % 100 / 10) (omega arith, omega arith) in
    let d = digit_value_digit (48 + n % 100 % 10) (omega arith, omega arith) in
    (refl, (omega arith, (omega (arith, a), (omega (arith, b), (omega (arith, c), (omega (arith, d), tt))))), omega (arith, a, b, c, d))

date_is_day : (number : ℤ) (text : List ℕ) → IsDateText number text → IsDay text number
date_is_day number text is = record {
  years = four_digits is.year;
  months = two_digits is.month;
  days = two_digits is.day;
  year = is.year;
  month = is.month;
  day = is.day;
  written = is.written;
  year_is = four_is is.year (omega (arith, ints, is.numbered.0));
  month_is = two_is is.month (omega (arith, is.numbered.0));
  day_is = two_is is.day (omega (arith, is.numbered.0, (days_in_month_bounds (pos is.year) is.month).0));
  numbered = is.numbered;
}

time_is_clock : (seconds : ℕ) (text : List ℕ) → IsTimeText seconds text → IsClock text (seconds * 1_000_000_000)
time_is_clock seconds text is = record {
  front = two_digits is.hour;
  back = two_digits is.minute ++ (codes ":" ++ two_digits is.second);
  count = is.hour;
  rest = is.minute * 60_000_000_000 + is.second * 1_000_000_000;
  written = is.written;
  count_is = (two_is is.hour (omega (arith, is.in_day)), is.in_day.0);
  rest_is = inr record {
    front = two_digits is.minute;
    back = two_digits is.second;
    count = is.minute;
    rest = is.second * 1_000_000_000;
    written = refl;
    count_is = (two_is is.minute (omega (arith, is.in_day)), is.in_day.1);
    rest_is = inl (is.second, (two_is is.second (omega (arith, is.in_day)), is.in_day.2), refl);
    sum = refl;
  };
  sum = omega (arith, is.sum);
}

-- the text of an instant has twenty characters, and is read as that instant
pub written_is_stamp : (z : ℤ) (text : List ℕ) → IsWritten z text → IsStamp z text
written_is_stamp z text is = (
  ap length is.written ∙ rw (is.date_is.written, is.time_is.written) refl,
  record {
    date = is.date;
    rest = is.time ++ codes "Z";
    number = is.number;
    time = is.rest * 1_000_000_000;
    offset = pos 0;
    written = is.written;
    date_is = date_is_day is.number is.date is.date_is;
    rest_is = inl ((is.time, refl, time_is_clock is.rest is.time is.time_is), refl);
    instant = omega (arith, ints, is.instant);
  },
)

-- two digits of a number are written so
two_back : (text : List ℕ) (n : ℕ) → IsDigits 2 text n → text ≡ two_digits n
two_back [] n is = let wrong : ⊥ = omega (arith, is.0) in absurd wrong
two_back (a ∷ []) n is = let wrong : ⊥ = omega (arith, is.0) in absurd wrong
two_back (a ∷ b ∷ []) n is =
    let first : IsInRange 48 57 a = digit_at (a ∷ b ∷ []) 0 is.1.1 (omega arith) in
    let second : IsInRange 48 57 b = digit_at (a ∷ b ∷ []) 1 is.1.1 (omega arith) in
    let tens = digit_value_digit a first in
    let ones = digit_value_digit b second in
    let one : a ≡ 48 + n / 10 = omega (arith, is.2, tens, ones, first, second) in
    let other : b ≡ 48 + n % 10 = omega (arith, is.2, tens, ones, first, second) in
    rw (one, other) refl
two_back (a ∷ b ∷ c ∷ text) n is = let wrong : ⊥ = omega (arith, is.0) in absurd wrong

-- so is a year
four_back : (text : List ℕ) (n : ℕ) → IsDigits 4 text n → text ≡ four_digits n
four_back [] n is = let wrong : ⊥ = omega (arith, is.0) in absurd wrong
four_back (a ∷ []) n is = let wrong : ⊥ = omega (arith, is.0) in absurd wrong
four_back (a ∷ b ∷ []) n is = let wrong : ⊥ = omega (arith, is.0) in absurd wrong
four_back (a ∷ b ∷ c ∷ []) n is = let wrong : ⊥ = omega (arith, is.0) in absurd wrong
four_back (a ∷ b ∷ c ∷ d ∷ []) n is =
    let text = a ∷ b ∷ c ∷ d ∷ [] in
    let r1 : IsInRange 48 57 a = digit_at text 0 is.1.1 (omega arith) in
    let r2 : IsInRange 48 57 b = digit_at text 1 is.1.1 (omega arith) in
    let r3 : IsInRange 48 57 c = digit_at text 2 is.1.1 (omega arith) in
    let r4 : IsInRange 48 57 d = digit_at text 3 is.1.1 (omega arith) in
    let v1 = digit_value_digit a r1 in
    let v2 = digit_value_digit b r2 in
    let v3 = digit_value_digit c r3 in
    let v4 = digit_value_digit d r4 in
    let first : a ≡ 48 + n / 100 / 10 = omega (arith, is.2, v1, v2, v3, v4, r1, r2, r3, r4) in
    let second : b ≡ 48 + n / 100 % 10 = omega (arith, is.2, v1, v2, v3, v4, r1, r2, r3, r4) in
    let third : c ≡ 48 + n % 100 / 10 = omega (arith, is.2, v1, v2, v3, v4, r1, r2, r3, r4) in
    let fourth : d ≡ 48 + n % 100 % 10 = omega (arith, is.2, v1, v2, v3, v4, r1, r2, r3, r4) in
    rw (first, second, third, fourth) refl
four_back (a ∷ b ∷ c ∷ d ∷ e ∷ text) n is = let wrong : ⊥ = omega (arith, is.0) in absurd wrong

-- how long a text is that is cut at a sign
cut_length : (text xs ys : List ℕ) (d : ℕ) → text ≡ xs ++ d ∷ ys → length text ≡ length xs + 1 + length ys
cut_length text xs ys d written = omega (arith, ap length written, length-append xs (d ∷ ys))

day_back : (text : List ℕ) (number : ℤ) → (is : IsDay text number) → IsDateText number text
day_back text number is = record {
  year = is.year;
  month = is.month;
  day = is.day;
  numbered = is.numbered;
  written = is.written ∙ rw (four_back is.years is.year is.year_is, two_back is.months is.month is.month_is, two_back is.days is.day is.day_is) refl;
}

day_length : (text : List ℕ) (number : ℤ) → IsDay text number → length text ≡ 10
day_length text number is =
    omega (arith, cut_length text is.years (is.months ++ 45 ∷ is.days) 45 is.written, cut_length (is.months ++ 45 ∷ is.days) is.months is.days 45 refl, is.year_is.0, is.month_is.0, is.day_is.0)

-- seconds of two characters have no fraction, minutes of five have seconds
seconds_back : (text : List ℕ) (nanos : ℕ) → length text ≡ 2 → IsSeconds text nanos
    → (second : ℕ) × (second ≤ 59) × (text ≡ two_digits second) × (nanos ≡ second * 1_000_000_000)
seconds_back text nanos short (inl (second, field, is)) = (second, field.1, two_back text second field.0, is)
seconds_back text nanos short (inr is) =
    let wrong : ⊥ = omega (arith, short, cut_length text is.front is.back 46 is.written, is.count_is.0.0) in absurd wrong

joined : (a b c x y z : List ℕ) → a ≡ x → b ≡ y → c ≡ z → a ++ 58 ∷ (b ++ 58 ∷ c) ≡ x ++ (codes ":" ++ (y ++ (codes ":" ++ z)))
joined a b c x y z one two three = rw (one, two, three) refl

clock_back : (text : List ℕ) (nanos : ℕ) → length text ≡ 8 → IsClock text nanos → (seconds : ℕ) × IsTimeText seconds text × (nanos ≡ seconds * 1_000_000_000)
clock_back text nanos long is =
    let rest : length is.back ≡ 5 = omega (arith, long, cut_length text is.front is.back 58 is.written, is.count_is.0.0) in
    elim is.rest_is [
      | inl plain ↦ let wrong : ⊥ = omega (arith, rest, plain.1.0.0) in absurd wrong
      | inr timed ↦
          let short : length timed.back ≡ 2 = omega (arith, rest, cut_length is.back timed.front timed.back 58 timed.written, timed.count_is.0.0) in
          let (second, few, shown, sum) = seconds_back timed.back timed.rest short timed.rest_is in (
            is.count * 3_600 + timed.count * 60 + second,
            record {
              hour = is.count;
              minute = timed.count;
              second = second;
              in_day = (is.count_is.1, timed.count_is.1, few);
              sum = refl;
              written =
                  is.written
                  ∙ ap (λ m. is.front ++ 58 ∷ m) timed.written
                  ∙ joined is.front timed.front timed.back (two_digits is.count) (two_digits timed.count) (two_digits second)
                  (two_back is.front is.count is.count_is.0) (two_back timed.front timed.count timed.count_is.0) shown;
            },
            omega (arith, is.sum, timed.sum, sum),
          )
    ]

-- no time of day has three characters
no_short_clock : (text : List ℕ) (nanos : ℕ) → length text ≡ 3 → ¬ IsClock text nanos
no_short_clock text nanos short is =
    let none : length is.back ≡ 0 = omega (arith, short, cut_length text is.front is.back 58 is.written, is.count_is.0.0) in
    elim is.rest_is [
      | inl plain ↦ omega (arith, none, plain.1.0.0)
      | inr timed ↦ omega (arith, none, cut_length is.back timed.front timed.back 58 timed.written, timed.count_is.0.0)
    ]

-- an offset from UTC is too long for such a text
no_shift : (sign : ℕ) (text : List ℕ) (time span : ℕ) → length text ≡ 9 → ¬ IsShifted sign text time span
no_shift sign text time span long is =
    let shift : length is.shift ≡ 5 =
    omega (arith, cut_length is.shift is.span_is.front is.span_is.back 58 is.span_is.written, is.span_is.count_is.0.0, is.span_is.rest_is.0.0) in
    let short : length is.clock ≡ 3 = omega (arith, long, shift, cut_length text is.clock is.shift sign is.written) in
    no_short_clock is.clock time short is.time_is

-- of the texts of an instant the one of twenty characters is written so
pub stamp_is_written : (z : ℤ) (text : List ℕ) → IsStamp z text → IsWritten z text
stamp_is_written z text (twenty, is) =
    let long : length is.rest ≡ 9 = omega (arith, twenty, day_length is.date is.number is.date_is, cut_length text is.date is.rest 84 is.written) in
    elim is.rest_is [
      | inl ((clock, zoned, at), none) ↦
          let eight : length clock ≡ 8 = omega (arith, long, ap length zoned, length-append clock (codes "Z")) in
          let (seconds, shown, sum) = clock_back clock is.time eight at in
          record {
            date = is.date;
            time = clock;
            number = is.number;
            rest = seconds;
            date_is = day_back is.date is.number is.date_is;
            time_is = shown;
            written = is.written ∙ ap (λ rest. is.date ++ 84 ∷ rest) zoned;
            instant = omega (arith, ints, is.instant, none, sum);
          }
      | inr (span, inl ahead) ↦ absurd (no_shift 43 is.rest is.time span long ahead.0)
      | inr (span, inr behind) ↦ absurd (no_shift 45 is.rest is.time span long behind.0)
    ]
