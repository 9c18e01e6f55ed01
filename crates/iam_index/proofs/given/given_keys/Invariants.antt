use Rattle.std.proofs.Common.{take}
use Rattle.std.specs.List.{flat_map}
use Rattle.iam_context.specs.Context.{keys_of}
use Rattle.iam_unasked.specs.Names.{HasNames}
use Rattle.iam_world.specs.World.{ResourceValue}
use Rattle.iam_index.proofs.given.given_keys.Given as goal

-- the keys of the resources so far
abbrev pub invariant-loop-r : goal.invariant-loop-r
invariant-loop-r l = HasNames l.keys (flat_map (λ (resource : ResourceValue). keys_of resource.context) (take l.r l.world.resources))
