use Rattle.std.proofs.Common.{◌≡◌, ◌∙◌, ap, get_or, [], string_bytes}
use Rattle.std.proofs.lemmas.Result.{on_ok_weaker}
use Rattle.iam_row.specs.Piece.{pieces_at}
use Rattle.iam_row.specs.Report.{CellTexts}
use Rattle.iam_open.proofs.BriefLemmas.{json_put, line_put}
use Rattle.iam_open.proofs.RowLemmas.{texts_same}
use Rattle.iam_open.proofs.brief.put_brief.Goals as goal

pub returns-in-Csv : goal.returns-in-Csv
returns-in-Csv c =
    let quoted = c.args.quoted.now in
    let at = c.args.at in
    let pieces : CellTexts = record { principal = c.text_at-principal.result.now; action = c.text_at-action.result.now; resource = c.text_at-resource.result.now } in
    let same : pieces ≡ pieces_at quoted at = texts_same pieces (pieces_at quoted at)
    (c.text_at-principal.ensures ∙ ap (λ ts. get_or ts at.principal []) c.as_slice.ensures) (c.text_at-action.ensures ∙ ap (λ ts. get_or ts at.action []) c.as_slice-2.ensures)
    (c.text_at-resource.ensures ∙ ap (λ ts. get_or ts at.resource []) c.as_slice-3.ensures) in
    on_ok_weaker c.put_csv.result
    (line_put quoted at c.args.word pieces (string_bytes c.args.text.now) (string_bytes c.put_csv.new.text) c.in-Csv.is same) c.put_csv.ensures

pub returns-in-Json : goal.returns-in-Json
returns-in-Json c =
    let quoted = c.args.quoted.now in
    let at = c.args.at in
    let pieces : CellTexts = record { principal = c.text_at-principal.result.now; action = c.text_at-action.result.now; resource = c.text_at-resource.result.now } in
    let same : pieces ≡ pieces_at quoted at = texts_same pieces (pieces_at quoted at)
    (c.text_at-principal.ensures ∙ ap (λ ts. get_or ts at.principal []) c.as_slice.ensures) (c.text_at-action.ensures ∙ ap (λ ts. get_or ts at.action []) c.as_slice-2.ensures)
    (c.text_at-resource.ensures ∙ ap (λ ts. get_or ts at.resource []) c.as_slice-3.ensures) in
    on_ok_weaker c.put_json.result
    (json_put quoted at c.args.word pieces (string_bytes c.args.text.now) (string_bytes c.put_json.new.text) c.in-Json.is same) c.put_json.ensures
