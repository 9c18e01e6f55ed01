use Rattle.std.proofs.Common.{◌≡◌, ℕ, List, length}
use Rattle.std.specs.List.{list_any}
use Rattle.iam_unasked.specs.Names.{HasNames}
use Rattle.iam_unasked.specs.Asks.{piece_asks}
use Rattle.iam_unasked.proofs.asks.draft_asks.Given as goal

-- what is left decides
abbrev pub invariant-loop-form : goal.invariant-loop-form
invariant-loop-form l = (list : List (List ℕ)) → HasNames l.keys list
    → list_any (piece_asks list) l.draft ≡ list_any (piece_asks list) l.left.pieces

abbrev pub decreases-loop-form : goal.decreases-loop-form
decreases-loop-form l = length l.left.pieces
