use Rattle.std.proofs.Common.{◌++◌, ◌∙◌, List, ℕ, true, ap}
use Rattle.std.proofs.lemmas.Result.{IfOk-weaker}
use Rattle.iam_decision.specs.declared.verdict.Verdict.{Verdict}
use Rattle.iam_row.specs.Piece.{pieces_of, row_text, tail_of}
use Rattle.iam_row.specs.Report.{brief_layout}
use Rattle.iam_row.specs.declared.quoted.Format.TheVariants.{Csv}
use Rattle.iam_row.proofs.Rendered.{brief_rendered}
use Rattle.iam_row.proofs.cell.csv_row_brief.Goals as goal

pub returns : goal.returns
returns c =
    IfOk-weaker c.row.result _ _
    (λ text rows p a r is.
    let row = rows p a r is in (
      row.0,
      row.1,
      row.2 ∙ ap (λ (v : Verdict). brief_layout.header ++ row_text Csv c.args.cell (pieces_of Csv row.0) (tail_of Csv true v)) c.bare.ensures
          ∙ ap (λ (t : List ℕ). brief_layout.header ++ t) (brief_rendered Csv c.args.cell row.0 c.args.decision),
    ))
    c.row.ensures
