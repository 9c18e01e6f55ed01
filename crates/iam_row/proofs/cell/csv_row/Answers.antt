use Rattle.std.proofs.Common.{◌++◌, ◌∙◌, List, ℕ, ap}
use Rattle.std.proofs.lemmas.Result.{IfOk-weaker}
use Rattle.iam_row.specs.Report.{full_layout}
use Rattle.iam_row.specs.declared.quoted.Format.TheVariants.{Csv}
use Rattle.iam_row.proofs.Rendered.{full_rendered}
use Rattle.iam_row.proofs.cell.csv_row.Goals as goal

pub returns : goal.returns
returns c =
    IfOk-weaker c.row.result _ _
    (λ text rows p a r is.
    let row = rows p a r is in
    (row.0, row.1, row.2 ∙ ap (λ (t : List ℕ). full_layout.header ++ t) (full_rendered Csv c.args.cell row.0 c.args.verdict.now)))
    c.row.ensures
