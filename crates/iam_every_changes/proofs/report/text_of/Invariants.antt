use Rattle.std.proofs.Common.{◌≡◌, map, take}
use Rattle.iam_row.specs.Code.ChangeParts.{made_of}
use Rattle.iam_every_changes.specs.Code.Told.{lists_of}
use Rattle.iam_every_changes.specs.Compared.{who_of}
use Rattle.iam_every_changes.specs.Report.{rows_in}
use Rattle.iam_every_changes.proofs.report.text_of.Given as goal

abbrev pub invariant-loop-i : goal.invariant-loop-i
invariant-loop-i l =
    l.report ≡ made_of l.fn.format l.fn.brief (rows_in (lists_of (map who_of (take l.i l.whos)) (take l.i l.all)))
