use Rattle.std.proofs.Common.{◌≡◌, length, get_or, arith}
use Rattle.iam_value.proofs.Octets.{octet_number, octet_first, octet_from_digits}
use Rattle.iam_value.proofs.pieces.octet.Goals as goal
use Rattle.iam_value.proofs.pieces.octet.Goals.{else-bytes-gt1-via-then-bytes-gt1+else-bytes-eq48, else-bytes-gt1-via-else-bytes-gt1}

pub returns-then-bytes-eq48 : goal.returns-then-bytes-eq48
returns-then-bytes-eq48 c = λ n is. octet_first c.args.bytes.now n is c.if-bytes-gt1.true c.if-bytes-eq48.true

pub returns-in_err-value : goal.returns-in_err-value
returns-in_err-value c = rw c.from_residual.ensures (λ n is. c.in_err-value.ensures n (octet_number c.args.bytes.now n is))

pub returns-then-value-gt255 : goal.returns-then-value-gt255
returns-then-value-gt255 c = λ n is. omega (arith, (octet_number c.args.bytes.now n is).2, c.in_ok-value.ensures.2, c.if-value-gt255.true, is.0)

first : (c : goal.Else-value-gt255) → get_or c.args.bytes.now 0 0 ≡ 48 → length c.args.bytes.now ≡ 1
first c zero = elim c.else-bytes-gt1.branch [ else-bytes-gt1-via-then-bytes-gt1+else-bytes-eq48 w ↦ absurd (w.if-bytes-eq48.false zero) | else-bytes-gt1-via-else-bytes-gt1 w ↦ omega (arith, w.if-bytes-gt1.false, c.in_ok-value.ensures.0.0) ]

pub returns : goal.returns
returns c = octet_from_digits c.args.bytes.now c.in_ok-value.value c.in_ok-value.ensures (first c) (omega arith)
