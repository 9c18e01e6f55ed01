use Rattle.std.proofs.Common.{string_bytes, ◌∙◌}
use Rattle.std.proofs.lemmas.Result.{IfOk-weaker}
use Rattle.iam_row.specs.Changes.{ChangeRow}
use Rattle.iam_row.specs.Code.ChangeParts.{comma_if}
use Rattle.iam_row.proofs.ChangedLines.{text_is_row}
use Rattle.iam_row.proofs.change_rows.row_text.Goals as goal

pub returns : goal.returns
returns c =
    let row : ChangeRow = record {
      texts = record { principal = c.args.principal.now; action = c.args.action.now; resource = c.args.resource.now };
      change = c.args.change;
      before = c.args.before.now;
      after = c.args.after.now;
    } in
    IfOk-weaker c.joined.result _ _
    (λ text is. text_is_row c.args.format c.args.brief (comma_if c.args.some) c.comma_if.result.now c.as_str.result.now c.as_str-2.result.now c.as_str-3.result.now c.in_ok-tail.tail row
    (string_bytes text) is c.comma_if.ensures (c.as_str.ensures ∙ c.in_ok-principal.ensures) (c.as_str-2.ensures ∙ c.in_ok-action.ensures)
    (c.as_str-3.ensures ∙ c.in_ok-resource.ensures) c.in_ok-tail.ensures)
    c.joined.ensures
