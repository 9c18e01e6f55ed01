use Rattle.std.proofs.Common.{◌≡◌, map, take}
use Rattle.std.specs.Str.{chars}
use Rattle.iam_kinds.specs.Answers.{characters_in}
use Rattle.iam_kinds.proofs.kinds.characters.Given as goal

abbrev pub invariant-loop-text : goal.invariant-loop-text
invariant-loop-text l = map (λ t. t.items) l.listed.items ≡ map (λ t. characters_in l.fold (chars t.now)) (take l.text-index l.texts)
