use Rattle.std.proofs.Common.{◌≡◌, drop}
use Rattle.iam_changes.specs.Code.Kept.{joined_kinds, kinds_in}
use Rattle.iam_changes.proofs.text.kinds_in.Given as goal

-- those so far, and those that are left
abbrev pub invariant-loop-part : goal.invariant-loop-part
invariant-loop-part l = joined_kinds l.kinds (kinds_in (drop l.part-index l.parts)) ≡ kinds_in l.parts
