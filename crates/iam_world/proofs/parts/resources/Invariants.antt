use Rattle.std.proofs.Common.{◌≡◌, map}
use Rattle.iam_shape.specs.Lent.{resource_of}
use Rattle.iam_world.specs.Code.Made.{made_resource}
use Rattle.iam_world.proofs.parts.resources.Given as goal

-- the resources so far are made of what was yielded
abbrev pub invariant-loop-resource : goal.invariant-loop-resource
invariant-loop-resource l =
    l.read.items
    ≡ map (λ p. made_resource (((resource_of p.0.0.0.now, p.0.0.1), map (λ level. level.items) p.0.1.items), p.1.items)) l.yielded
