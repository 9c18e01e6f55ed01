use Rattle.std.proofs.Common.{◌≡◌, ◌∙◌, ◌++◌, [], List, ℕ, ap, codes, refl, string_bytes, true}
use Rattle.iam_decision.specs.declared.verdict.Decision.TheVariants.{ImplicitDeny}
use Rattle.iam_open.specs.Code.Parts.{pieces_text}
use Rattle.iam_open.specs.Rows.{TurnedRow, row_text, row_with, word_of}
use Rattle.iam_open.specs.declared.asked.Word.{Word}
use Rattle.iam_row.specs.Piece.{bare, pieces_of}
use Rattle.iam_row.specs.Report.{CellTexts, HasTexts}
use Rattle.iam_row.specs.declared.quoted.Format.TheVariants.{Csv}
use Rattle.iam_open.proofs.BriefLemmas.{pieces_row}
use Rattle.iam_open.proofs.RowLemmas.{texts_same}
use Rattle.iam_open.proofs.brief.brief_row.Goals as goal

pub returns : goal.returns
returns c =
    let at = c.args.at in
    let cell = at.cell in
    let turned = c.args.turned.now in
    let texts : CellTexts = record { principal = c.principal_text.result.now; action = c.action_text.result.now; resource = c.resource_text.result.now } in
    let has : HasTexts c.args.world.now at.principal at.action at.resource texts =
    record { principal = c.principal_text.ensures; action = c.action_text.ensures; resource = c.resource_text.ensures } in
    let pieces : CellTexts = record { principal = c.as_str.result.now; action = c.as_str-2.result.now; resource = c.as_str-3.result.now } in
    let same : pieces ≡ pieces_of Csv texts =
    texts_same pieces (pieces_of Csv texts)
    (c.as_str.ensures.value ∙ (c.in_ok-principal-2.ensures.ok ∙ ap (λ (q : List ℕ). codes "," ++ (q ++ codes ",")) c.in_ok-principal.ensures))
    (c.as_str-2.ensures.value ∙ (c.in_ok-action-2.ensures.ok ∙ ap (λ (q : List ℕ). q ++ codes ",") c.in_ok-action.ensures))
    (c.as_str-3.ensures.value ∙ c.in_ok-resource.ensures) in
    let row : TurnedRow = row_with texts turned (bare ImplicitDeny) [] [] in
    let alone : string_bytes c.put_csv.new.text ≡ pieces_text Csv cell pieces c.word_of.result =
    c.in_ok-put_csv.ensures ∙ ap (λ (old : List ℕ). old ++ pieces_text Csv cell pieces c.word_of.result) c.new-text.ensures.bytes in
    let told : pieces_text Csv cell pieces c.word_of.result ≡ pieces_text Csv cell (pieces_of Csv texts) (word_of turned) =
    ap (λ (it : CellTexts). pieces_text Csv cell it c.word_of.result) same
    ∙ ap (λ (word : Word). pieces_text Csv cell (pieces_of Csv texts) word) c.word_of.ensures in
    let made : string_bytes c.put_csv.new.text ≡ row_text Csv true cell row = alone ∙ (told ∙ pieces_row Csv cell texts (word_of turned)) in (
      row,
      (at.principal, at.action, at.resource, c.requires.cell, has, c.requires.turned, tt, tt),
      refl,
      made,
    )
