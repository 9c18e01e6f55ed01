use Rattle.std.proofs.Common.{◌≡◌, drop}
use Rattle.iam_kinds.specs.Code.{waits_for}
use Rattle.iam_kinds.proofs.table.waits_for.Given as goal

abbrev pub invariant-loop-sign : goal.invariant-loop-sign
invariant-loop-sign l = waits_for l.signs ≡ waits_for (drop l.sign-index l.signs)
