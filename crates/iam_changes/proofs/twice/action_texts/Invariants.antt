use Rattle.std.proofs.Common.{◌≡◌, map, take}
use Rattle.iam_changes.proofs.twice.action_texts.Given as goal

abbrev pub invariant-loop-a : goal.invariant-loop-a
invariant-loop-a l = map (λ text. text.now) l.texts.items ≡ take l.a l.world.actions
