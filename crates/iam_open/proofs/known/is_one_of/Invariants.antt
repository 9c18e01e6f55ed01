use Rattle.std.proofs.Common.{◌≡◌, drop, map}
use Rattle.iam_context.specs.Code.Entries.{derived_name}
use Rattle.iam_context.specs.Context.{has_key}
use Rattle.iam_open.proofs.known.is_one_of.Given as goal

-- what is left decides
abbrev pub invariant-loop-it : goal.invariant-loop-it
invariant-loop-it l = has_key (map derived_name l.derived) l.key ≡ has_key (map derived_name (drop l.it-index l.derived)) l.key
