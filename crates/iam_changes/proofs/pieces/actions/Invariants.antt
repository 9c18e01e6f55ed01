use Rattle.std.proofs.Common.{◌≡◌, map, take}
use Rattle.iam_row.specs.Code.ChangeParts.{change_action}
use Rattle.iam_changes.proofs.pieces.actions.Given as goal

abbrev pub invariant-loop-a : goal.invariant-loop-a
invariant-loop-a l = l.texts.items ≡ map (change_action l.format) (take l.a l.world.actions)
