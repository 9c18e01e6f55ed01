use Rattle.std.proofs.Common.{◌≡◌, length}
use Rattle.iam_open.specs.Asks.{all_added, text_keys}
use Rattle.iam_open.proofs.hangs.add_draft.Given as goal

-- what is left decides
abbrev pub invariant-loop-form : goal.invariant-loop-form
invariant-loop-form l =
    all_added l.known l.fn.keys.items (text_keys l.draft) ≡ all_added l.known l.keys.items (text_keys l.left.pieces)

abbrev pub decreases-loop-form : goal.decreases-loop-form
decreases-loop-form l = length l.left.pieces
