use Rattle.std.proofs.Common.{◌≡◌, ◌++◌, Bool, List, map, take}
use Rattle.iam_row.specs.Changes.{ChangeRow}
use Rattle.iam_row.specs.Code.ChangeParts.{made_of}
use Rattle.iam_row.specs.declared.quoted.Format.{Format}
use Rattle.iam_every_changes.specs.Changes.{changed_of}
use Rattle.iam_every_changes.specs.Report.{row_at}
use Rattle.iam_every_changes.proofs.report.add_rows.Given as goal

abbrev pub invariant-loop-row : goal.invariant-loop-row
invariant-loop-row l =
    (format : Format) (brief : Bool) (before : List ChangeRow) → l.fn.report ≡ made_of format brief before
    → l.report ≡ made_of format brief (before ++ map (row_at l.principal) (map changed_of (take l.row-index l.rows)))
