use Rattle.std.proofs.Common.{ℕ, List, ◌++◌, take}
use Rattle.iam_context.specs.Keys.{HasKeys}
use Rattle.iam_context.specs.Context.{keys_of}
use Rattle.iam_context.proofs.keys.Keys.add.Given as goal

abbrev pub invariant-loop-key : goal.invariant-loop-key
invariant-loop-key l = (keys : List (List ℕ)) → HasKeys l.fn.self keys → HasKeys l.self (keys ++ keys_of (take l.key-index l.part.items))
