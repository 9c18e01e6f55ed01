use Rattle.std.proofs.Common.{◌∙◌, ap}
use Rattle.std.proofs.lemmas.Result.{IfOk-weaker}
use Rattle.iam_row.specs.Piece.{quote_of}
use Rattle.iam_every.specs.Every.{row_of}
use Rattle.iam_every.specs.Code.Texts.{tail_in}
use Rattle.iam_every.proofs.TextLemmas.{is_named_row}
use Rattle.iam_every.proofs.row_text.row_text.Goals as goal

pub returns : goal.returns
returns c =
    let format = c.args.format in
    IfOk-weaker c.joined.result _ _
    (λ text is named e.
    is_named_row format c.args.brief c.args.cell named (row_of c.args.row.now) _ c.args.principal.now c.as_str.result.now c.as_str-2.result.now c.in_ok-tail.tail is e
    (c.as_str.ensures.value ∙ c.in_ok-action.ensures ∙ ap (quote_of format) c.action.ensures)
    (c.as_str-2.ensures.value ∙ c.in_ok-resource.ensures ∙ ap (quote_of format) c.resource.ensures) (c.in_ok-tail.ensures ∙ ap (tail_in format c.args.brief) c.verdict.ensures))
    c.joined.ensures
