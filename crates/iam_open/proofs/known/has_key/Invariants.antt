use Rattle.std.proofs.Common.{◌≡◌, drop}
use Rattle.iam_context.specs.Context.{has_key, keys_of}
use Rattle.iam_open.proofs.known.has_key.Given as goal

-- what is left decides
abbrev pub invariant-loop-name : goal.invariant-loop-name
invariant-loop-name l = has_key (keys_of l.part.items) l.key ≡ has_key (keys_of (drop l.name-index l.part.items)) l.key
