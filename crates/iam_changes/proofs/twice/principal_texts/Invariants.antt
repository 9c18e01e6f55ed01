use Rattle.std.proofs.Common.{◌≡◌, map, take}
use Rattle.iam_layers.specs.Cell.{principal_text}
use Rattle.iam_changes.proofs.twice.principal_texts.Given as goal

abbrev pub invariant-loop-p : goal.invariant-loop-p
invariant-loop-p l = map (λ text. text.now) l.texts.items ≡ map principal_text (take l.p l.world.principals)
