use Rattle.std.proofs.Common.{◌≡◌, map, string_bytes, take}
use Rattle.iam_every.proofs.meant.world_actions.Given as goal

abbrev pub invariant-loop-a : goal.invariant-loop-a
invariant-loop-a l = map string_bytes l.actions.items ≡ take l.a l.world.actions
