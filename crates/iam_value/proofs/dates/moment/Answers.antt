use Rattle.std.proofs.Common.{ap, inl, inr, Some, arith}
use Rattle.std.proofs.lemmas.Int.{ints}
use Rattle.iam_value.specs.Reading.{IsReading}
use Rattle.iam_value.specs.Moment.{IsDay, IsDateTime, IsMoment}
use Rattle.iam_value.proofs.Cuts.{same_reading, the_answer}
use Rattle.iam_value.proofs.Unique.{same_moment}
use Rattle.iam_value.proofs.dates.moment.Goals as goal

pub returns-in-Some-clause-only : goal.returns-in-Some-clause-only
returns-in-Some-clause-only c = λ v is. ap Some (same_moment c.args.text.now _ v (inl (c.in-Some.seconds, c.in-Some.ensures.value, omega (arith, ints))) is)

pub returns-in-Some-day-clause-only : goal.returns-in-Some-day-clause-only
returns-in-Some-day-clause-only c =
    let day : IsDay c.args.text.now c.in-Some-day.number = rw c.as_bytes-bytes.ensures.value at c.in-Some-day.ensures in
    λ v is. ap Some (same_moment c.args.text.now _ v (inr (inl (c.in-Some-day.number, day, omega (arith, ints)))) is)

reading : (c : goal.After-date_time) → IsReading c.date_time.result (IsMoment c.args.text.now)
reading c =
    let same = c.as_bytes-bytes.ensures.value in
    same_reading c.date_time.result (IsDateTime c.args.text.now) (IsMoment c.args.text.now)
    (λ n is. inr (inr is))
    (λ n is. elim is [
      | inl w ↦ absurd (c.in_default.ensures.value w.0 w.1)
      | inr w ↦ elim w [
        | inl v ↦ absurd (rw same at c.in_default-day.ensures v.0 v.1)
        | inr v ↦ v
      ]
    ])
    (rw same at c.date_time.ensures)

pub returns-clause-value : goal.returns-clause-value
returns-clause-value c = reading c

pub returns-clause-only : goal.returns-clause-only
returns-clause-only c = the_answer c.date_time.result (IsMoment c.args.text.now) (same_moment c.args.text.now) (reading c)
