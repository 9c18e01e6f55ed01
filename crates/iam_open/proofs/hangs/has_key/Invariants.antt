use Rattle.std.proofs.Common.{◌≡◌, drop}
use Rattle.iam_context.specs.Context.{has_key}
use Rattle.iam_open.proofs.hangs.has_key.Given as goal

-- what is left decides
abbrev pub invariant-loop-it : goal.invariant-loop-it
invariant-loop-it l = has_key l.keys l.key ≡ has_key (drop l.it-index l.keys) l.key
