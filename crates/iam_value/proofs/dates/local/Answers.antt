use Rattle.std.proofs.Common.{inl, inr, arith}
use Rattle.std.proofs.lemmas.Int.{ints}
use Rattle.iam_value.proofs.dates.local.Goals as goal

pub returns-in-Some-shifted-clause-value : goal.returns-in-Some-shifted-clause-value
returns-in-Some-shifted-clause-value c = inr (c.in-Some-shifted.shift, inr (c.in-Some-shifted.ensures.value, omega (arith, ints, c.in-Some-shifted.ensures.below.1)))

pub returns-in_err-time-clause-value : goal.returns-in_err-time-clause-value
returns-in_err-time-clause-value c = rw c.from_residual.ensures (λ n is. elim is [
  | inl w ↦ c.in_err-time.ensures.value n.0 w.0
  | inr w ↦ elim w.1 [
    | inl v ↦ c.in_default.ensures.value (n.0, w.0) v.0
    | inr v ↦ c.in_default-shifted.ensures.value (n.0, w.0) v.0
  ]
])
