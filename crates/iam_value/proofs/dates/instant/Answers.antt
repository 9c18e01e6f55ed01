use Rattle.std.proofs.Common.{arith}
use Rattle.std.proofs.lemmas.Int.{ints}
use Rattle.iam_value.proofs.dates.instant.Goals as goal

pub returns : goal.returns
returns c = omega (arith, ints)
