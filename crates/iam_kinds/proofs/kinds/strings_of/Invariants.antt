use Rattle.std.proofs.Common.{◌≡◌, map, take}
use Rattle.std.specs.Str.{chars}
use Rattle.std.specs.String.{string_bytes}
use Rattle.iam_kinds.proofs.kinds.strings_of.Given as goal

abbrev pub invariant-loop-text : goal.invariant-loop-text
invariant-loop-text l = map (λ t. chars (string_bytes t)) l.strings.items ≡ map (λ t. t.items) (take l.text-index l.texts)
