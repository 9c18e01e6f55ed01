use Rattle.std.proofs.Common.{◌++◌, ◌∙◌, ap, decimal, refl, string_bytes}
use Rattle.std.proofs.lemmas.Result.{on_ok_weaker}
use Rattle.iam_row.specs.Piece.{quote_of}
use Rattle.iam_row.specs.declared.quoted.Format.TheVariants.{Csv}
use Rattle.iam_every.specs.Every.{row_of}
use Rattle.iam_every.specs.Code.Texts.{tail_in}
use Rattle.iam_every.proofs.TextLemmas.{is_named_row, parts_added}
use Rattle.iam_every.proofs.row_text.add_csv_row.Goals as goal

pub returns : goal.returns
returns c =
    let row = row_of c.args.row.now in
    let brief = c.args.brief in
    let cell = c.args.cell in
    let principal = c.args.principal.now in
    let tail = tail_in Csv brief row.verdict in
    let old = string_bytes c.args.text.now in
    let fourth = string_bytes c.push_str-4.new.self in
    let sixth = string_bytes c.push_str-5.new.self in
    on_ok_weaker c.add_back.result
    (λ last named is.
    parts_added old (string_bytes c.push_str.new.self) (string_bytes c.push_str-2.new.self) (string_bytes c.push_str-3.new.self) fourth
    (string_bytes c.add_field.new.row) sixth (string_bytes c.add_field-2.new.row) (string_bytes c.add_back.new.row)
    (decimal cell) principal (quote_of Csv row.action) (quote_of Csv row.resource) tail.back
    (c.in_ok-push_str.ensures.bytes ∙ ap (λ n. old ++ n) c.format.ensures.text) c.in_ok-push_str-2.ensures.bytes c.in_ok-push_str-3.ensures.bytes
    c.in_ok-push_str-4.ensures.bytes (c.in_ok-add_field.ensures ∙ ap (λ t. fourth ++ quote_of Csv t) c.action.ensures)
    c.in_ok-push_str-5.ensures.bytes (c.in_ok-add_field-2.ensures ∙ ap (λ t. sixth ++ quote_of Csv t) c.resource.ensures) (last ∙ ap (λ v. string_bytes c.add_field-2.new.row ++ (tail_in Csv brief v).back) c.verdict.ensures)
    ∙ ap (λ t. old ++ t)
    (is_named_row Csv brief cell named row _ principal (quote_of Csv row.action) (quote_of Csv row.resource) tail refl is refl refl refl))
    c.add_back.ensures
