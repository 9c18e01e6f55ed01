use Rattle.std.proofs.Common.{◌≡◌, ◌∙◌, ap, string_bytes, subst, sym}
use Rattle.std.proofs.lemmas.Result.{IfOk-weaker}
use Rattle.iam_open.specs.Rows.{front_text, full_text}
use Rattle.iam_open.proofs.RowLemmas.{json_made}
use Rattle.iam_open.proofs.row.full_text.Goals as goal
use Rattle.iam_row.specs.Report.{CellTexts}
use Rattle.iam_row.specs.declared.quoted.Format.{Format}

pub returns : goal.returns
returns c =
    let texts : CellTexts = record { principal = c.args.principal.now; action = c.args.action.now; resource = c.args.resource.now } in
    let word = c.args.word.now in
    let statements = c.args.statements.now in
    let lacks = c.args.lacks.now in
    let places = c.args.hangs_on.now in
    let keys = c.args.keys.now in
    let example = c.args.example.now in
    let front = string_bytes c.in_ok-front.front in
    let front_is = subst (λ (format : Format). front ≡ front_text format c.args.cell texts word) c.in-Json.is c.in_ok-front.ensures in
    IfOk-weaker c.format-in-Json.result _ _
    (λ text is.
    is
    ∙ json_made c.args.cell texts word statements lacks places keys example front (string_bytes c.in_ok-back-in-Json.back) front_is
    c.in_ok-back-in-Json.ensures
    ∙ ap (λ (format : Format). full_text format c.args.cell texts word statements lacks places keys example) (sym c.in-Json.is))
    c.format-in-Json.ensures.ok
