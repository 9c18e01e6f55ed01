use Rattle.std.proofs.Common.{◌≡◌, ◌++◌, map, take}
use Rattle.iam_every_changes.proofs.actions.add_actions.Given as goal

abbrev pub invariant-loop-a : goal.invariant-loop-a
invariant-loop-a l = map (λ text. text.now) l.texts.items ≡ map (λ text. text.now) l.fn.texts.items ++ take l.a l.world.actions
