use Rattle.std.proofs.Common.{◌≡◌, ℕ, List, drop}
use Rattle.std.specs.List.{list_any}
use Rattle.iam_context.specs.Keys.{HasKeys}
use Rattle.iam_context.specs.Context.{has_key, keys_of}
use Rattle.iam_context.proofs.part.is_shared.Given as goal

-- what is left decides
abbrev pub invariant-loop-key : goal.invariant-loop-key
invariant-loop-key l = (keys : List (List ℕ)) → HasKeys l.others keys
    → list_any (has_key keys) (keys_of l.part.items) ≡ list_any (has_key keys) (keys_of (drop l.key-index l.part.items))
