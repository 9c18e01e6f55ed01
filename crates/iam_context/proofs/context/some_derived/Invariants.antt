use Rattle.std.proofs.Common.{◌≡◌, drop, map}
use Rattle.iam_context.specs.Context.{all_of, has_derived, keys_of}
use Rattle.iam_context.proofs.context.some_derived.Given as goal

-- what is left decides
abbrev pub invariant-loop-part : goal.invariant-loop-part
invariant-loop-part l = has_derived (keys_of (all_of (map (λ part. part.now.items) l.given)))
    ≡ has_derived (keys_of (all_of (map (λ part. part.now.items) (drop l.part-index l.given))))
