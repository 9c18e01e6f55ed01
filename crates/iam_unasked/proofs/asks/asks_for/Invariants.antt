use Rattle.std.proofs.Common.{◌≡◌, ℕ, List, drop}
use Rattle.std.specs.List.{list_any}
use Rattle.iam_unasked.specs.Names.{HasNames}
use Rattle.iam_unasked.specs.Asks.{entry_asks}
use Rattle.iam_unasked.proofs.asks.asks_for.Given as goal

-- what is left decides
abbrev pub invariant-loop-entry : goal.invariant-loop-entry
invariant-loop-entry l = (list : List (List ℕ)) → HasNames l.keys list
    → list_any (entry_asks list) l.statement.conditions ≡ list_any (entry_asks list) (drop l.entry-index l.statement.conditions)
