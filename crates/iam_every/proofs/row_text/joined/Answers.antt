use Rattle.std.proofs.Common.{◌∙◌}
use Rattle.std.proofs.lemmas.Result.{IfOk-weaker}
use Rattle.iam_row.specs.Report.{CellTexts}
use Rattle.iam_every.proofs.TextLemmas.{is_object}
use Rattle.iam_every.proofs.row_text.joined.Goals as goal

pub returns-in-Json : goal.returns-in-Json
returns-in-Json c =
    let texts : CellTexts = record { principal = c.args.principal.now; action = c.args.action.now; resource = c.args.resource.now } in
    IfOk-weaker c.format-in-Json.result _ _
    (λ text is. is ∙ is_object c.args.format c.args.cell texts c.args.tail.now _ _ _ c.in-Json.is c.comma_before-comma.ensures c.as_str-front.ensures c.as_str-back.ensures)
    c.format-in-Json.ensures.ok
