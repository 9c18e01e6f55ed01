use Rattle.std.proofs.Common.{◌∙◌, false}
use Rattle.std.proofs.lemmas.Result.{IfOk-weaker}
use Rattle.iam_open.specs.Rows.{row_with}
use Rattle.iam_row.specs.Report.{CellTexts}
use Rattle.iam_open.proofs.RowLemmas.{row_made}
use Rattle.iam_open.proofs.row.texts_row.Goals as goal

pub returns : goal.returns
returns c =
    let hangs = c.args.hangs.now in
    let texts : CellTexts = record { principal = c.principal_text.result.now; action = c.action_text.result.now; resource = c.resource_text.result.now } in
    let quoted : CellTexts = record { principal = c.as_str.result.now; action = c.as_str-2.result.now; resource = c.as_str-3.result.now } in
    IfOk-weaker c.full_row.result _ _
    (λ text is. (
      texts,
      record { principal = c.principal_text.ensures; action = c.action_text.ensures; resource = c.resource_text.ensures },
      is
          ∙ row_made c.args.format false c.args.at.cell (row_with texts c.args.turned.now c.args.verdict.now hangs.places.items hangs.keys.items) quoted
          (c.as_str.ensures.value ∙ c.in_ok-principal.ensures) (c.as_str-2.ensures.value ∙ c.in_ok-action.ensures)
          (c.as_str-3.ensures.value ∙ c.in_ok-resource.ensures),
    ))
    c.full_row.ensures
