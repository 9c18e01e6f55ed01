use Rattle.std.proofs.Common.{◌≡◌, take, map, string_bytes}
use Rattle.iam_world.proofs.parts.read_actions.Given as goal

abbrev pub invariant-loop-action : goal.invariant-loop-action
invariant-loop-action l = map string_bytes l.read.items ≡ map (λ action. action.now) (take l.action-index l.actions)
