use Rattle.std.proofs.Common.{ℕ, List, ◌++◌, take}
use Rattle.iam_unasked.specs.Names.{HasNames}
use Rattle.iam_context.specs.Context.{keys_of}
use Rattle.iam_unasked.proofs.names.Names.add.Given as goal

abbrev pub invariant-loop-key : goal.invariant-loop-key
invariant-loop-key l = (keys : List (List ℕ)) → HasNames l.fn.self keys → HasNames l.self (keys ++ keys_of (take l.key-index l.part.items))
