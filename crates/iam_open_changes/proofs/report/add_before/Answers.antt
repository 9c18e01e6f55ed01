use Rattle.std.proofs.Common.{◌∙◌, [], subst, sym}
use Rattle.std.proofs.lemmas.Result.{on_ok_weaker}
use Rattle.iam_open_changes.specs.Code.Texts.{texts_of}
use Rattle.iam_open_changes.specs.Report.{AreRows, IsAt}
use Rattle.iam_open_changes.proofs.AddsLemmas.{adds_none}
use Rattle.iam_open_changes.proofs.CellsLemmas.{left_if, none_if, rows_before}
use Rattle.iam_open_changes.proofs.report.add_before.Goals as goal
use Rattle.iam_row.specs.Report.{HasTexts}
use Rattle.iam_world.specs.World.{WorldValue}

pub returns-then-is_some : goal.returns-then-is_some
returns-then-is_some c =
    let before = c.args.requests.now.before in
    let after = c.args.requests.now.after in
    let at = c.args.at in
    let texts = texts_of c.texts_at-texts.result in
    let has : HasTexts before at.principal at.action at.resource texts =
    subst (λ (w : WorldValue). HasTexts w at.principal at.action at.resource texts) c.before-2.ensures c.texts_at-texts.ensures in
    let is : IsAt after texts c.found_in-now.result =
    subst (λ (w : WorldValue). IsAt w texts c.found_in-now.result) c.to_after.ensures.other c.found_in-now.ensures.at in (
      [],
      left_if before after at.cell at.principal at.action at.resource texts c.found_in-now.result (sym c.is_some.ensures ∙ c.if-is_some.true) c.requires has
          is,
      adds_none c.args.format c.args.brief c.args.rows.now,
    )

pub returns : goal.returns
returns c =
    let before = c.args.requests.now.before in
    let after = c.args.requests.now.after in
    let at = c.args.at in
    let texts = texts_of c.texts_at-texts.result in
    let has : HasTexts before at.principal at.action at.resource texts =
    subst (λ (w : WorldValue). HasTexts w at.principal at.action at.resource texts) c.before-2.ensures c.texts_at-texts.ensures in
    let is : IsAt after texts c.found_in-now.result =
    subst (λ (w : WorldValue). IsAt w texts c.found_in-now.result) c.to_after.ensures.other c.found_in-now.ensures.at in
    let none = none_if after texts c.found_in-now.result (sym c.is_some.ensures ∙ c.if-is_some.false) is in
    on_ok_weaker c.add_request.result
    (λ (rows, are, adds). (
      rows,
      rows_before before after at.cell at.principal at.action at.resource texts rows c.requires has none
          (subst (λ (w : WorldValue). AreRows w after texts rows) c.before-3.ensures
          (subst (λ (w : WorldValue). AreRows c.before-3.result.now w texts rows) c.after.ensures are)),
      adds,
    ))
    c.add_request.ensures
