use Rattle.std.proofs.Common.{◌≡◌, take}
use Rattle.std.specs.List.{flat_map}
use Rattle.iam_open.specs.Asks.{all_added, entry_keys}
use Rattle.iam_open.proofs.hangs.add_conditions.Given as goal

-- those of the entries so far
abbrev pub invariant-loop-entry : goal.invariant-loop-entry
invariant-loop-entry l = l.keys.items ≡ all_added l.known l.fn.keys.items (flat_map entry_keys (take l.entry-index l.entries))
