-- Contexts at moments: the key of the time has one value, which names the instant. And what is known of a date that each instant from one
-- on is compared with. LOGIC 7.3, 8.3 and 9.2.
use Rattle.std.specs.Prelude.{◌≡◌, ◌≤◌, ℕ, ℤ, ◌≤ℤ◌, ◌*ℤ◌, pos, List, [], ◌∷◌, codes, ⊤}
use Rattle.iam_condition.specs.declared.operand.Operand.{Operand}
use Rattle.iam_condition.specs.declared.operand.Operand.TheVariants as operand
use Rattle.iam_condition.specs.declared.operator.Base.TheVariants.{Date}
use Rattle.iam_condition.specs.declared.operator.Order.{Order}
use Rattle.iam_context.specs.Context.{ContextValue, values_of}
use Rattle.iam_match.specs.Entry.{Ordered, ValueMatches}
use Rattle.iam_open.specs.declared.certain.Certain.{Certain}
use Rattle.iam_open.specs.declared.certain.Certain.TheVariants.{Always, Never, Open}
use Rattle.iam_value.specs.Moment.{IsMoment}

-- the key of the time
abbrev pub time_key : List ℕ
time_key = codes "aws:CurrentTime"

-- the context is at this moment
abbrev pub IsAtMoment : ContextValue → ℕ → Type 0
IsAtMoment context moment =
    (text : List ℕ) × (values_of context time_key ≡ text ∷ []) × IsMoment text (pos moment *ℤ pos 1_000_000_000)

-- the one context is at a moment, and the other at that one or a later one
abbrev pub IsNoEarlier : ContextValue → ContextValue → Type 0
IsNoEarlier one other = (m : ℕ) × (n : ℕ) × (m ≤ n) × IsAtMoment one m × IsAtMoment other n

-- the context's time stands in this order to the value
abbrev pub IsInTime : ContextValue → Order → Operand → Type 0
IsInTime context order value =
    (text : List ℕ) × (values_of context time_key ≡ text ∷ []) × ValueMatches context (Date order) text value

-- the context's time is an instant, and not before this one
abbrev pub IsFrom : ℤ → ContextValue → Type 0
IsFrom now context =
    (text : List ℕ) × (n : ℤ) × (values_of context time_key ≡ text ∷ []) × IsMoment text n × (now ≤ℤ n)

-- each instant from this one on stands so to the other, or none does
abbrev pub OrderTells : Certain → Order → ℤ → ℤ → Type 0
OrderTells Always order now other = (n : ℤ) → now ≤ℤ n → Ordered order n other
OrderTells Never order now other = (n : ℤ) → now ≤ℤ n → ¬ Ordered order n other
OrderTells Open order now other = ⊤

-- and of a value, if it is an instant
abbrev pub InOrder : Order → ℤ → Operand → Type 0
InOrder order n value = (m : ℤ) × (value ≡ operand.Instant m) × Ordered order n m

abbrev pub DateTells : Certain → Order → ℤ → Operand → Type 0
DateTells Always order now value = (n : ℤ) → now ≤ℤ n → InOrder order n value
DateTells Never order now value = (n : ℤ) → now ≤ℤ n → ¬ InOrder order n value
DateTells Open order now value = ⊤
