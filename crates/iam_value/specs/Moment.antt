-- Instants: whole seconds, a date, or a date with a time and its offset from UTC (AWS IAM User Guide, 'Date condition
-- operators': seconds from 1970 on, or ISO 8601, of which the forms below are our choice). Their values are nanoseconds
-- from 1970-01-01T00:00:00Z. The signs by their codes: 43 is `+`, 45 `-`, 46 `.`, 58 `:`, 84 `T`. LOGIC 8.3.
use Rattle.std.specs.Prelude.{◌≡◌, ◌⊎◌, ℕ, ◌+◌, ◌-◌, ◌*◌, ◌^◌, ◌≤◌, List, ◌∷◌, ◌++◌, length, codes, ℤ, pos, neg_ℤ, ◌+ℤ◌, ◌-ℤ◌, ◌*ℤ◌}
use Rattle.std.specs.Str.Parse.{IsNumeral, digits_value}
use Rattle.jiff_core.specs.Calendar.{IsCivilDate, days_from_civil}
use Rattle.iam_value.specs.Values.{IsWhole}

-- as many decimal digits as said, and the number that they write
abbrev pub IsDigits : ℕ → List ℕ → ℕ → Type 0
IsDigits count text n = (length text ≡ count) × IsNumeral 10 text × (n ≡ digits_value 10 text)

-- two digits, of a number of at most `most`
abbrev pub IsField : ℕ → List ℕ → ℕ → Type 0
IsField most text n = IsDigits 2 text n × (n ≤ most)

-- a day of the Gregorian calendar, and its number counted from 1970-01-01
abbrev pub IsDayNumber : ℕ → ℕ → ℕ → ℤ → Type 0
IsDayNumber year month day number =
    IsCivilDate (pos year) month day × (number ≡ days_from_civil (pos year) month day)

-- `YYYY-MM-DD` of a day with that number
pub record IsDay (text : List ℕ) (number : ℤ) : Type 0 where
  pub years : List ℕ
  pub months : List ℕ
  pub days : List ℕ
  pub year : ℕ
  pub month : ℕ
  pub day : ℕ
  pub written : text ≡ years ++ 45 ∷ (months ++ 45 ∷ days)
  pub year_is : IsDigits 4 years year
  pub month_is : IsDigits 2 months month
  pub day_is : IsDigits 2 days day
  pub numbered : IsDayNumber year month day number

-- one to nine digits after the point, in nanoseconds
abbrev pub IsFraction : List ℕ → ℕ → Type 0
IsFraction text nanos =
    IsNumeral 10 text × (length text ≤ 9) × (nanos ≡ digits_value 10 text * 10 ^ (9 - length text))

-- a count of two digits, a sign and a rest: as many units, and the value of the rest
pub record IsJoined (sign most unit : ℕ) (IsRest : List ℕ → ℕ → Type 0) (text : List ℕ) (value : ℕ) : Type 0 where
  pub front : List ℕ
  pub back : List ℕ
  pub count : ℕ
  pub rest : ℕ
  pub written : text ≡ front ++ sign ∷ back
  pub count_is : IsField most front count
  pub rest_is : IsRest back rest
  pub sum : value ≡ count * unit + rest

-- seconds, `ss` or `ss.f`, in nanoseconds
abbrev pub IsSeconds : List ℕ → ℕ → Type 0
IsSeconds text nanos =
    ((second : ℕ) × IsField 59 text second × (nanos ≡ second * 1_000_000_000))
    ⊎ IsJoined 46 59 1_000_000_000 IsFraction text nanos

-- minutes, `mm`, `mm:ss` or `mm:ss.f`, in nanoseconds
abbrev pub IsMinutes : List ℕ → ℕ → Type 0
IsMinutes text nanos =
    ((minute : ℕ) × IsField 59 text minute × (nanos ≡ minute * 60_000_000_000))
    ⊎ IsJoined 58 59 60_000_000_000 IsSeconds text nanos

-- the time of day, `hh:mm`, `hh:mm:ss` or `hh:mm:ss.f`, in nanoseconds from midnight
abbrev pub IsClock : List ℕ → ℕ → Type 0
IsClock text nanos = IsJoined 58 23 3_600_000_000_000 IsMinutes text nanos

-- `hh:mm`, in minutes
abbrev pub IsSpan : List ℕ → ℕ → Type 0
IsSpan text span = IsJoined 58 23 60 (IsField 59) text span

-- a time of day in UTC
abbrev pub IsUtc : List ℕ → ℕ → Type 0
IsUtc text time = (clock : List ℕ) × (text ≡ clock ++ codes "Z") × IsClock clock time

-- a time of day, a sign and `hh:mm`
pub record IsShifted (sign : ℕ) (text : List ℕ) (time span : ℕ) : Type 0 where
  pub clock : List ℕ
  pub shift : List ℕ
  pub written : text ≡ clock ++ sign ∷ shift
  pub time_is : IsClock clock time
  pub span_is : IsSpan shift span

-- a time of day with its offset from UTC in minutes: `Z`, `+hh:mm`, or `-hh:mm` for one that is behind
abbrev pub IsLocal : List ℕ → ℕ → ℤ → Type 0
IsLocal text time offset =
    (IsUtc text time × (offset ≡ pos 0))
    ⊎ ((span : ℕ) × ((IsShifted 43 text time span × (offset ≡ pos span))
    ⊎ (IsShifted 45 text time span × (offset ≡ neg_ℤ (pos span)))))

-- a date, `T`, and a time of day with its offset: the civil time less the offset
pub record IsDateTime (text : List ℕ) (nanos : ℤ) : Type 0 where
  pub date : List ℕ
  pub rest : List ℕ
  pub number : ℤ
  pub time : ℕ
  pub offset : ℤ
  pub written : text ≡ date ++ 84 ∷ rest
  pub date_is : IsDay date number
  pub rest_is : IsLocal rest time offset
  pub instant :
      nanos ≡ (number *ℤ pos 86_400_000_000_000 +ℤ pos time) -ℤ offset *ℤ pos 60_000_000_000

-- whole seconds, the midnight in UTC of a date, or a date with a time
abbrev pub IsMoment : List ℕ → ℤ → Type 0
IsMoment text nanos =
    ((seconds : ℤ) × IsWhole text seconds × (nanos ≡ seconds *ℤ pos 1_000_000_000))
    ⊎ (((number : ℤ) × IsDay text number × (nanos ≡ number *ℤ pos 86_400_000_000_000))
    ⊎ IsDateTime text nanos)

-- the text `YYYY-MM-DDThh:mm:ssZ` of the instant that many seconds after 1970-01-01T00:00:00Z: the one of twenty characters
abbrev pub IsStamp : ℤ → List ℕ → Type 0
IsStamp seconds text = (length text ≡ 20) × IsDateTime text (seconds *ℤ pos 1_000_000_000)
