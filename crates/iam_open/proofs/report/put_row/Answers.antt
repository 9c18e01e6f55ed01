use Rattle.std.proofs.Common.{◌≡◌, ◌∙◌, [], ap, refl, string_bytes, subst, sym, true}
use Rattle.std.proofs.lemmas.Result.{on_ok_weaker}
use Rattle.iam_decision.specs.declared.verdict.Decision.TheVariants.{ImplicitDeny}
use Rattle.iam_open.specs.Code.Parts.{pieces_text}
use Rattle.iam_open.specs.Report.{IsRow}
use Rattle.iam_open.specs.Rows.{TurnedRow, row_text, together}
use Rattle.iam_open.specs.declared.asked.Word.{Word}
use Rattle.iam_row.specs.Piece.{bare, pieces_at}
use Rattle.iam_row.proofs.Rows.{texts_there}
use Rattle.iam_open.proofs.BriefLemmas.{brief_made}
use Rattle.iam_open.proofs.report.put_row.Goals as goal

pub returns-then-cells : goal.returns-then-cells
returns-then-cells c =
    let world = c.args.cells.world.now in
    let quoted = c.args.cells.quoted.now in
    let at = c.args.at in
    let cell = at.cell in
    let old = string_bytes c.args.text.now in
    let new = string_bytes c.put_brief.new.text in
    let (texts, has) = texts_there world cell at.principal at.action at.resource c.requires.cell in
    let row : TurnedRow = record { texts = texts; turned = c.args.turned.now; verdict = bare ImplicitDeny; places = []; keys = [] } in
    on_ok_weaker c.put_brief.result
    (λ is.
    let made : new ≡ together quoted.format old (row_text quoted.format true cell row) =
    brief_made world quoted at row old new c.requires.quoted has
    (is ∙ ap (λ (word : Word). together quoted.format old (pieces_text quoted.format cell (pieces_at quoted at) word)) c.word_of.ensures) in (
      row,
      subst (λ b. IsRow b world cell row) (sym c.if-cells.true) (at.principal, at.action, at.resource, c.requires.cell, has, c.requires.turned, tt, tt),
      refl,
      subst (λ b. new ≡ together quoted.format old (row_text quoted.format b cell row)) (sym c.if-cells.true) made,
    ))
    c.put_brief.ensures

pub returns : goal.returns
returns c =
    let world = c.args.cells.world.now in
    let format = c.args.cells.quoted.now.format in
    let cell = c.args.at.cell in
    let old = string_bytes c.args.text.now in
    let new = string_bytes c.put.new.text in
    let (row, is_row, same, made) = c.in_ok-more.ensures in
    on_ok_weaker c.put.result
    (λ is. (
      row,
      subst (λ b. IsRow b world cell row) (sym c.if-cells.false) is_row,
      same,
      subst (λ b. new ≡ together format old (row_text format b cell row)) (sym c.if-cells.false)
          (is ∙ ap (λ it. together format old it) (c.as_str.ensures.value ∙ made)),
    ))
    c.put.ensures
