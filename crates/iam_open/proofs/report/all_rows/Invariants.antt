use Rattle.std.proofs.Common.{◌≡◌, [], string_bytes, take}
use Rattle.iam_open.specs.Code.Parts.{all_together}
use Rattle.iam_open.proofs.report.all_rows.Given as goal

abbrev pub invariant-loop-part : goal.invariant-loop-part
invariant-loop-part l = string_bytes l.text ≡ all_together l.format [] (take l.part-index l.parts)
