use Rattle.std.proofs.Common.{◌≡◌, drop}
use Rattle.iam_context.specs.Context.{has_derived, keys_of}
use Rattle.iam_context.proofs.part.has_derived.Given as goal

-- what is left decides
abbrev pub invariant-loop-key : goal.invariant-loop-key
invariant-loop-key l = has_derived (keys_of l.part.items) ≡ has_derived (keys_of (drop l.key-index l.part.items))
