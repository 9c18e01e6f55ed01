use Rattle.std.proofs.Common.{◌≡◌, map, take}
use Rattle.iam_kinds.proofs.asked.lent.Given as goal

abbrev pub invariant-loop-text : goal.invariant-loop-text
invariant-loop-text l = map (λ t. t.now) l.lent.items ≡ map (λ t. t.items) (take l.text-index l.texts)
