use Rattle.std.proofs.Common.{◌≡◌, drop, map}
use Rattle.iam_context.specs.Code.Values.{first_values}
use Rattle.iam_context.specs.Context.{all_of}
use Rattle.iam_context.proofs.find.find_in_parts.Given as goal

-- what is left decides
abbrev pub invariant-loop-part : goal.invariant-loop-part
invariant-loop-part l = first_values (all_of (map (λ part. part.now.items) l.parts)) l.key
    ≡ first_values (all_of (map (λ part. part.now.items) (drop l.part-index l.parts))) l.key
