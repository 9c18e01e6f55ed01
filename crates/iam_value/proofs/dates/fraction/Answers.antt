use Rattle.std.proofs.Common.{◌*◌, ◌<◌, arith}
use Rattle.iam_value.proofs.Numerals.{fraction_below}
use Rattle.iam_value.proofs.dates.fraction.Goals as goal

below : (c : goal.After-pow-scale) → c.in_ok-value.value * c.pow-scale.result < 1_000_000_000
below c = let n = c.in_ok-value.ensures in rw (n.2, c.pow-scale.ensures) (fraction_below c.args.bytes.now n.0.1 n.1)

pub overflow_mul-result : goal.overflow_mul-result
overflow_mul-result c = omega (arith, below c)

pub returns-clause-below : goal.returns-clause-below
returns-clause-below c = below c
