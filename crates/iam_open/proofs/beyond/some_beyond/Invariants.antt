use Rattle.std.proofs.Common.{◌≡◌, drop}
use Rattle.std.specs.List.{list_any}
use Rattle.iam_open.specs.Code.Known.{operand_beyond}
use Rattle.iam_open.proofs.beyond.some_beyond.Given as goal

-- what is left decides
abbrev pub invariant-loop-value : goal.invariant-loop-value
invariant-loop-value l = list_any (operand_beyond l.known) l.values ≡ list_any (operand_beyond l.known) (drop l.value-index l.values)
