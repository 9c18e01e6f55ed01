use Rattle.std.proofs.Common.{◌≡◌, length}
use Rattle.iam_open.specs.Code.Known.{text_beyond}
use Rattle.iam_open.proofs.beyond.draft_beyond.Given as goal

-- what is left decides
abbrev pub invariant-loop-form : goal.invariant-loop-form
invariant-loop-form l = text_beyond l.known l.draft ≡ text_beyond l.known l.left.pieces

abbrev pub decreases-loop-form : goal.decreases-loop-form
decreases-loop-form l = length l.left.pieces
