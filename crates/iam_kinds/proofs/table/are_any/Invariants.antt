use Rattle.std.proofs.Common.{◌≡◌, drop}
use Rattle.iam_kinds.specs.Code.{are_any}
use Rattle.iam_kinds.proofs.table.are_any.Given as goal

abbrev pub invariant-loop-sign : goal.invariant-loop-sign
invariant-loop-sign l = are_any l.signs ≡ are_any (drop l.sign-index l.signs)
