use Rattle.std.proofs.Common.{◌≡◌, ℕ, List, ◌++◌, drop, take}
use Rattle.iam_context.specs.Keys.{HasKeys, shares}
use Rattle.iam_context.specs.Context.{keys_of}
use Rattle.iam_context.proofs.keys.Keys.add_new.Given as goal

-- the set has the keys so far, and what is left beside them decides
abbrev pub invariant-loop-key : goal.invariant-loop-key
invariant-loop-key l = (keys : List (List ℕ)) → HasKeys l.fn.self keys
    → HasKeys l.self (keys ++ keys_of (take l.key-index l.part.items))
    × (shares keys (keys_of l.part.items)
    ≡ shares (keys ++ keys_of (take l.key-index l.part.items)) (keys_of (drop l.key-index l.part.items)))
