use Rattle.std.proofs.Common.{◌≡◌, map, option_map, take}
use Rattle.serde_json.specs.View.{view}
use Rattle.iam_world_context.specs.Part.{part_of}
use Rattle.iam_world_context.proofs.contexts.read_parts.Given as goal

-- the parts of the contexts so far
abbrev pub invariant-loop-context : goal.invariant-loop-context
invariant-loop-context l =
    map (λ part. part.items) l.parts.items ≡ map (λ c. part_of (option_map (λ d. view d.now) c)) (take l.context-index l.contexts)
