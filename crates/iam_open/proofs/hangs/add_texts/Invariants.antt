use Rattle.std.proofs.Common.{◌≡◌, take}
use Rattle.std.specs.List.{flat_map}
use Rattle.iam_open.specs.Asks.{all_added, text_keys}
use Rattle.iam_open.proofs.hangs.add_texts.Given as goal

-- those of the texts so far
abbrev pub invariant-loop-text : goal.invariant-loop-text
invariant-loop-text l = l.keys.items ≡ all_added l.known l.fn.keys.items (flat_map text_keys (take l.text-index l.texts))
