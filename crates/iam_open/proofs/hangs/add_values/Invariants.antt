use Rattle.std.proofs.Common.{◌≡◌, take}
use Rattle.std.specs.List.{flat_map}
use Rattle.iam_open.specs.Asks.{all_added, operand_keys}
use Rattle.iam_open.proofs.hangs.add_values.Given as goal

-- those of the values so far
abbrev pub invariant-loop-value : goal.invariant-loop-value
invariant-loop-value l = l.keys.items ≡ all_added l.known l.fn.keys.items (flat_map operand_keys (take l.value-index l.values))
