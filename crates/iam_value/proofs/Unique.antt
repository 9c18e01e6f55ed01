-- A text is at most one whole number, and at most one instant.
use Rattle.std.proofs.Common.{◌≡◌, ◌≢◌, ℕ, ◌<◌, List, [], ◌∷◌, ◌++◌, length, ℤ, pos, neg_ℤ, refl, sym, ap, ◌∙◌, inl, inr, arith}
use Rattle.std.specs.Int.{IsInRange}
use Rattle.std.specs.Str.Parse.{IsNumeral, digits_value}
use Rattle.iam_value.specs.Pieces.{Lacks, IsCutAt}
use Rattle.iam_value.specs.Values.{IsWhole}
use Rattle.iam_value.specs.Moment.{IsField, IsFraction, IsDay, IsSeconds, IsMinutes, IsClock, IsSpan, IsUtc, IsShifted, IsLocal, IsDateTime, IsMoment}
use Rattle.iam_value.proofs.Cuts.{same_cut, not_lacking, digits_lack, lacks_both}
use Rattle.iam_value.proofs.Times.{day_parts, seconds_cut, minutes_cut, clock_cut, span_cut, clock_lacks, day_lacks, utc_cut, shifted_cut, date_time_cut}

-- digits do not begin with a minus sign
plain_digits : (digits rest : List ℕ) → IsNumeral 10 digits → ¬ (digits ≡ 45 ∷ rest)
plain_digits digits rest is begins = not_lacking 45 digits [] rest (digits_lack 45 digits is.1 (λ r. omega arith)) begins

pub same_whole : (text : List ℕ) (v w : ℤ) → IsWhole text v → IsWhole text w → v ≡ w
same_whole text v w a b =
    let m = a.1 in
    let n = b.1 in
    elim m.2 [
      | inl p ↦ elim n.2 [
        | inl q ↦ p.1 ∙ ap (λ ds. pos (digits_value 10 ds)) (sym p.0 ∙ q.0) ∙ sym q.1
        | inr q ↦ absurd (plain_digits m.0 n.0 m.1 (sym p.0 ∙ q.0))
      ]
      | inr p ↦ elim n.2 [
        | inl q ↦ absurd (plain_digits n.0 m.0 n.1 (sym q.0 ∙ p.0))
        | inr q ↦ let same : m.0 ≡ n.0 = cc in p.1 ∙ ap (λ ds. neg_ℤ (pos (digits_value 10 ds))) same ∙ sym q.1
      ]
    ]

-- two cuts of one text at a sign that the fronts lack
split : (d : ℕ) (text xs ys zs ws : List ℕ) → text ≡ xs ++ d ∷ ys → text ≡ zs ++ d ∷ ws → Lacks d xs → Lacks d zs → (xs ≡ zs) × (ys ≡ ws)
split d text xs ys zs ws a b left right = same_cut d xs ys zs ws left right (sym a ∙ b)

same_field : (most : ℕ) (text : List ℕ) (m n : ℕ) → IsField most text m → IsField most text n → m ≡ n
same_field most text m n a b = a.0.2 ∙ sym b.0.2

day_cut : (text : List ℕ) (number : ℤ) → (is : IsDay text number) → IsCutAt 45 text is.years (is.months ++ 45 ∷ is.days)
day_cut text number is = (is.written, digits_lack 45 is.years is.year_is.1.1 (λ r. omega arith))

pub same_day : (text : List ℕ) (v w : ℤ) → IsDay text v → IsDay text w → v ≡ w
same_day text v w a b =
    let again : IsCutAt 45 (a.months ++ 45 ∷ a.days) a.months a.days = (refl, digits_lack 45 a.months a.month_is.1.1 (λ r. omega arith)) in
    let p = day_parts text a.years (a.months ++ 45 ∷ a.days) a.months a.days w (day_cut text v a) again b in
    let year : p.year ≡ a.year = p.year_is.2 ∙ sym a.year_is.2 in
    let month : p.month ≡ a.month = p.month_is.2 ∙ sym a.month_is.2 in
    let day : p.day ≡ a.day = p.day_is.2 ∙ sym a.day_is.2 in
    let numbered = rw (year, month, day) at p.numbered in
    a.numbered.1 ∙ sym numbered.1

same_fraction : (text : List ℕ) (m n : ℕ) → IsFraction text m → IsFraction text n → m ≡ n
same_fraction text m n a b = a.2 ∙ sym b.2

field_cut : (d most n : ℕ) (text front back : List ℕ) → ¬ (IsInRange 48 57 d) → text ≡ front ++ d ∷ back → IsField most front n → IsCutAt d text front back
field_cut d most n text front back outside written is = (written, digits_lack d front is.0.1.1 outside)

same_seconds : (text : List ℕ) (m n : ℕ) → IsSeconds text m → IsSeconds text n → m ≡ n
same_seconds text m n a b = elim a [
  | inl p ↦ elim b [
    | inl q ↦ omega (arith, p.2, q.2, same_field 59 text p.0 q.0 p.1 q.1)
    | inr q ↦ absurd (not_lacking 46 text q.front q.back (digits_lack 46 text p.1.0.1.1 (λ r. omega arith)) q.written)
  ]
  | inr p ↦
      let q = seconds_cut text p.front p.back n (field_cut 46 59 p.count text p.front p.back (λ r. omega arith) p.written p.count_is) b in
      omega (arith, p.sum, q.4, same_field 59 p.front p.count q.0 p.count_is q.2, same_fraction p.back p.rest q.1 p.rest_is q.3)
]

same_minutes : (text : List ℕ) (m n : ℕ) → IsMinutes text m → IsMinutes text n → m ≡ n
same_minutes text m n a b = elim a [
  | inl p ↦ elim b [
    | inl q ↦ omega (arith, p.2, q.2, same_field 59 text p.0 q.0 p.1 q.1)
    | inr q ↦ absurd (not_lacking 58 text q.front q.back (digits_lack 58 text p.1.0.1.1 (λ r. omega arith)) q.written)
  ]
  | inr p ↦
      let q = minutes_cut text p.front p.back n (field_cut 58 59 p.count text p.front p.back (λ r. omega arith) p.written p.count_is) b in
      omega (arith, p.sum, q.4, same_field 59 p.front p.count q.0 p.count_is q.2, same_seconds p.back p.rest q.1 p.rest_is q.3)
]

same_clock : (text : List ℕ) (m n : ℕ) → IsClock text m → IsClock text n → m ≡ n
same_clock text m n a b =
    let q = clock_cut text a.front a.back n (field_cut 58 23 a.count text a.front a.back (λ r. omega arith) a.written a.count_is) b in
    omega (arith, a.sum, q.4, same_field 23 a.front a.count q.0 a.count_is q.2, same_minutes a.back a.rest q.1 a.rest_is q.3)

same_span : (text : List ℕ) (m n : ℕ) → IsSpan text m → IsSpan text n → m ≡ n
same_span text m n a b =
    let q = span_cut text a.front a.back n (field_cut 58 23 a.count text a.front a.back (λ r. omega arith) a.written a.count_is) b in
    omega (arith, a.sum, q.4, same_field 23 a.front a.count q.0 a.count_is q.2, same_field 59 a.back a.rest q.1 a.rest_is q.3)

same_utc : (text : List ℕ) (m n : ℕ) → IsUtc text m → IsUtc text n → m ≡ n
same_utc text m n a b =
    let q = utc_cut text a.0 [] n (a.1, clock_lacks 90 m a.0 (λ r. omega arith) a.2) b in
    same_clock a.0 m n a.2 q.1

same_shifted : (sign : ℕ) (text : List ℕ) (m n j k : ℕ) → sign < 46 → IsShifted sign text m j → IsShifted sign text n k → (m ≡ n) × (j ≡ k)
same_shifted sign text m n j k low a b =
    let q = shifted_cut sign text a.clock a.shift n k low (a.written, clock_lacks sign m a.clock (λ r. omega arith) a.time_is) b in
    (same_clock a.clock m n a.time_is q.0, same_span a.shift j k a.span_is q.1)

-- a span is written in digits and a colon
span_lacks : (d n : ℕ) (text : List ℕ) → ¬ (IsInRange 48 58 d) → IsSpan text n → Lacks d text
span_lacks d n text outside is =
    rw is.written (lacks_both d 58 is.front is.back (digits_lack d is.front is.count_is.0.1.1 (λ r. outside (omega arith, omega arith))) (λ e. outside (omega arith, omega arith)) (digits_lack d is.back is.rest_is.0.1.1 (λ r. outside (omega arith, omega arith))))

-- a text with one sign lacks another
shifted_lacks : (d sign m k : ℕ) (text : List ℕ) → ¬ (IsInRange 46 58 d) → sign ≢ d → IsShifted sign text m k → Lacks d text
shifted_lacks d sign m k text outside other is =
    rw is.written (lacks_both d sign is.clock is.shift (clock_lacks d m is.clock outside is.time_is) other (span_lacks d k is.shift (λ r. outside (omega arith, omega arith)) is.span_is))

utc_not_shifted : (sign m n k : ℕ) (text : List ℕ) → sign < 46 → IsUtc text m → ¬ (IsShifted sign text n k)
utc_not_shifted sign m n k text low utc shifted = not_lacking 90 text utc.0 [] (shifted_lacks 90 sign n k text (λ r. omega arith) (λ e. omega (arith, e)) shifted) utc.1

one_sign : (m n j k : ℕ) (text : List ℕ) → IsShifted 43 text m j → ¬ (IsShifted 45 text n k)
one_sign m n j k text ahead behind = not_lacking 45 text behind.clock behind.shift (shifted_lacks 45 43 m j text (λ r. omega arith) (λ e. omega (arith, e)) ahead) behind.written

pub same_local : (text : List ℕ) (m n : ℕ) (v w : ℤ) → IsLocal text m v → IsLocal text n w → (m ≡ n) × (v ≡ w)
same_local text m n v w a b = elim a [
  | inl p ↦ elim b [
    | inl q ↦ (same_utc text m n p.0 q.0, p.1 ∙ sym q.1)
    | inr q ↦ elim q.1 [
      | inl y ↦ absurd (utc_not_shifted 43 m n q.0 text (omega arith) p.0 y.0)
      | inr y ↦ absurd (utc_not_shifted 45 m n q.0 text (omega arith) p.0 y.0)
    ]
  ]
  | inr p ↦ elim b [
    | inl q ↦ elim p.1 [
      | inl x ↦ absurd (utc_not_shifted 43 n m p.0 text (omega arith) q.0 x.0)
      | inr x ↦ absurd (utc_not_shifted 45 n m p.0 text (omega arith) q.0 x.0)
    ]
    | inr q ↦ elim p.1 [
      | inl x ↦ elim q.1 [
        | inl y ↦ let e = same_shifted 43 text m n p.0 q.0 (omega arith) x.0 y.0 in (e.0, x.1 ∙ ap pos e.1 ∙ sym y.1)
        | inr y ↦ absurd (one_sign m n p.0 q.0 text x.0 y.0)
      ]
      | inr x ↦ elim q.1 [
        | inl y ↦ absurd (one_sign n m q.0 p.0 text y.0 x.0)
        | inr y ↦ let e = same_shifted 45 text m n p.0 q.0 (omega arith) x.0 y.0 in (e.0, x.1 ∙ ap (λ k. neg_ℤ (pos k)) e.1 ∙ sym y.1)
      ]
    ]
  ]
]

same_date_time : (text : List ℕ) (v w : ℤ) → IsDateTime text v → IsDateTime text w → v ≡ w
same_date_time text v w a b =
    let q = date_time_cut text a.date a.rest w (a.written, day_lacks 84 a.number a.date (λ r. omega arith) a.date_is) b in
    let number : a.number ≡ b.number = same_day a.date a.number b.number a.date_is q.0 in
    let rest = same_local a.rest a.time b.time a.offset b.offset a.rest_is q.1 in
    a.instant ∙ rw (number, rest.0, rest.1) (sym b.instant)

-- a whole number is written in digits and a minus sign in front
whole_lacks : (d : ℕ) (text : List ℕ) (v : ℤ) → ¬ (IsInRange 45 57 d) → IsWhole text v → Lacks d text
whole_lacks d text v outside is =
    let digits = digits_lack d is.1.0 is.1.1.1 (λ r. outside (omega arith, omega arith)) in
    elim is.1.2 [
      | inl p ↦ rw p.0 digits
      | inr p ↦ rw p.0 (lacks_both d 45 [] is.1.0 (λ k e inside. absurd (omega arith)) (λ e. outside (omega arith, omega arith)) digits)
    ]

whole_not_day : (text : List ℕ) (v w : ℤ) → IsWhole text v → ¬ (IsDay text w)
whole_not_day text v w whole day = elim whole.1.2 [
  | inl p ↦ not_lacking 45 text day.years (day.months ++ 45 ∷ day.days) (rw p.0 (digits_lack 45 whole.1.0 whole.1.1.1 (λ r. omega arith))) day.written
  | inr p ↦
      let e = split 45 text [] whole.1.0 day.years (day.months ++ 45 ∷ day.days) p.0 day.written (λ k e inside. absurd (omega arith)) (digits_lack 45 day.years day.year_is.1.1 (λ r. omega arith)) in
      omega (arith, ap length e.0, day.year_is.0)
]

whole_not_time : (text : List ℕ) (v w : ℤ) → IsWhole text v → ¬ (IsDateTime text w)
whole_not_time text v w whole time = not_lacking 84 text time.date time.rest (whole_lacks 84 text v (λ r. omega arith) whole) time.written

day_not_time : (text : List ℕ) (v w : ℤ) → IsDay text v → ¬ (IsDateTime text w)
day_not_time text v w day time = not_lacking 84 text time.date time.rest (day_lacks 84 v text (λ r. omega arith) day) time.written

pub same_moment : (text : List ℕ) (v w : ℤ) → IsMoment text v → IsMoment text w → v ≡ w
same_moment text v w a b = elim a [
  | inl p ↦ elim b [
    | inl q ↦ p.2 ∙ rw (same_whole text p.0 q.0 p.1 q.1) (sym q.2)
    | inr q ↦ elim q [
      | inl y ↦ absurd (whole_not_day text p.0 y.0 p.1 y.1)
      | inr y ↦ absurd (whole_not_time text p.0 w p.1 y)
    ]
  ]
  | inr p ↦ elim p [
    | inl x ↦ elim b [
      | inl q ↦ absurd (whole_not_day text q.0 x.0 q.1 x.1)
      | inr q ↦ elim q [
        | inl y ↦ x.2 ∙ rw (same_day text x.0 y.0 x.1 y.1) (sym y.2)
        | inr y ↦ absurd (day_not_time text x.0 w x.1 y)
      ]
    ]
    | inr x ↦ elim b [
      | inl q ↦ absurd (whole_not_time text q.0 v q.1 x)
      | inr q ↦ elim q [
        | inl y ↦ absurd (day_not_time text y.0 v y.1 x)
        | inr y ↦ same_date_time text v w x y
      ]
    ]
  ]
]
