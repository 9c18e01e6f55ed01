use Rattle.std.proofs.Common.{◌++◌, map, take}
use Rattle.std.specs.List.{flat_map}
use Rattle.iam_context.specs.Keys.{HasKeys}
use Rattle.iam_context.specs.Context.{keys_of}
use Rattle.iam_world_context.proofs.contexts.check_resources.Given as goal

-- the keys of the world and of the principals so far
abbrev pub invariant-loop-part : goal.invariant-loop-part
invariant-loop-part l =
    HasKeys l.keys (keys_of l.world.items ++ flat_map keys_of (map (λ part. part.items) (take l.part-index l.principals)))
