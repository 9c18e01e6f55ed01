use Rattle.std.proofs.Common.{false, refl, subst, sym}
use Rattle.std.proofs.lemmas.Result.{IfOk-weaker}
use Rattle.iam_open.specs.Report.{IsSaid}
use Rattle.iam_open.specs.Rows.{row_with}
use Rattle.iam_open.specs.declared.answer.Turned.{Turned}
use Rattle.iam_open.proofs.RowLemmas.{said_plain}
use Rattle.iam_open.proofs.row.row.Goals as goal

pub returns-in-Possible : goal.returns-in-Possible
returns-in-Possible c =
    let at = c.args.at in
    let hangs = c.in_ok-hangs.hangs in
    let verdict = c.in-Possible.it.verdict in
    let said = subst (λ (t : Turned). IsSaid false c.args.world.now at.principal at.action at.resource t verdict) (sym c.in-Possible.is) refl in
    IfOk-weaker c.texts_row.result _ _
    (λ text (texts, has, is). (
      row_with texts c.args.turned.now verdict hangs.places.items hangs.keys.items,
      (at.principal, at.action, at.resource, c.requires.cell, has, c.requires.turned, said, (c.in_ok-hangs.ensures.keys, c.in_ok-hangs.ensures.listed)),
      refl,
      is,
    ))
    c.texts_row.ensures

pub returns : goal.returns
returns c =
    let at = c.args.at in
    let hangs = c.in_ok-hangs.hangs in
    let verdict = c.in_ok-verdict-in_default.verdict in
    let said =
    said_plain c.args.world.now at.principal at.action at.resource c.args.turned.now verdict c.in_default.not-Possible c.in_ok-verdict-in_default.ensures in
    IfOk-weaker c.texts_row-in_default.result _ _
    (λ text (texts, has, is). (
      row_with texts c.args.turned.now verdict hangs.places.items hangs.keys.items,
      (at.principal, at.action, at.resource, c.requires.cell, has, c.requires.turned, said, (c.in_ok-hangs.ensures.keys, c.in_ok-hangs.ensures.listed)),
      refl,
      is,
    ))
    c.texts_row-in_default.ensures
