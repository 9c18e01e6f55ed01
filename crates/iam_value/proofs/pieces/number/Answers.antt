use Rattle.std.proofs.Common.{◌+◌, ◌*◌, ◌^◌, ◌<◌, length, arith}
use Rattle.std.proofs.lemmas.Int.Digits.{digits_more, digits_value_more}
use Rattle.iam_value.proofs.Numerals.{next_below, digit_within}
use Rattle.iam_value.proofs.pieces.number.Goals as goal

pub returns-in_err-digit : goal.returns-in_err-digit
returns-in_err-digit c = rw c.from_residual.ensures (λ n is. c.in_err-digit.ensures.value (rw c.from.ensures (digit_within 10 c.args.bytes.now c.loop-byte.byte-index is.0.1 (omega arith))))

next : (c : goal.In_ok-digit) → c.loop-byte.value * 10 + c.in_ok-digit.digit < 10 ^ 9
next c = next_below c.args.bytes.now c.loop-byte.byte-index c.loop-byte.value c.in_ok-digit.digit (omega arith) (omega arith) c.loop-byte.invariant.0 c.loop-byte.invariant.1 (omega (arith, c.in_ok-digit.ensures.value.0, c.in_ok-digit.ensures.value.1))

pub overflow_mul-value : goal.overflow_mul-value
overflow_mul-value c = omega (arith, next c)

pub overflow_add-value : goal.overflow_add-value
overflow_add-value c = omega (arith, next c)

pub loop-byte-preserved : goal.loop-byte-preserved
loop-byte-preserved c =
    let below = rw c.from.ensures at c.in_ok-digit.ensures.value.0 in
    let same = rw c.from.ensures at c.in_ok-digit.ensures.value.1 in
    let inside : c.loop-byte.byte-index < length c.args.bytes.now = omega arith in
    let more = digits_value_more 10 c.args.bytes.now c.loop-byte.byte-index inside in
    (digits_more 10 c.args.bytes.now c.loop-byte.byte-index inside c.loop-byte.invariant.0 below, cc)
