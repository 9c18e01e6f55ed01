use Rattle.std.proofs.Common.{◌≡◌, ℕ, List, drop}
use Rattle.std.specs.List.{list_any}
use Rattle.iam_unasked.specs.Names.{HasNames}
use Rattle.iam_unasked.specs.Asks.{operand_asks}
use Rattle.iam_unasked.proofs.asks.some_asks.Given as goal

-- what is left decides
abbrev pub invariant-loop-value : goal.invariant-loop-value
invariant-loop-value l = (list : List (List ℕ)) → HasNames l.keys list
    → list_any (operand_asks list) l.values ≡ list_any (operand_asks list) (drop l.value-index l.values)
