use Rattle.std.proofs.Common.{ap, arith}
use Rattle.iam_value.proofs.Addresses.{same_address}
use Rattle.iam_value.proofs.ranges.Range.first_of.Goals as goal

pub returns-in_err-address : goal.returns-in_err-address
returns-in_err-address c = rw c.from_residual.ensures (λ range is. c.in_err-address.ensures.value range.address is.0)

pub returns-then-prefix-address : goal.returns-then-prefix-address
returns-then-prefix-address c = λ range is.
    let same = same_address c.args.text.now c.in_ok-address.address range.address c.in_ok-address.ensures.value is.0 in
    omega (arith, c.if-prefix-address.true, is.2, ap (λ x. x.width) same, ap (λ x. x.width) c.address.view_is)
