use Rattle.std.proofs.Common.{◌≡◌, [], take}
use Rattle.iam_changes.specs.Code.Pieces.{rows_in}
use Rattle.iam_changes.proofs.text.lead_in.Given as goal

-- the parts so far have no rows
abbrev pub invariant-loop-part : goal.invariant-loop-part
invariant-loop-part l = rows_in (take l.part-index l.parts) ≡ []
