use Rattle.std.proofs.Common.{◌≡◌, ◌++◌, true, false, List, ℕ, string_bytes, ap, ◌∙◌}
use Rattle.iam_row.specs.Changes.{ChangeRow}
use Rattle.iam_row.specs.Code.ChangeParts.{ChangeRowsValue, change_row, comma_if, has_some, made_of}
use Rattle.iam_row.proofs.ChangedReport.{made_more}
use Rattle.iam_row.proofs.change_rows.ChangeRows.add.Goals as goal

pub returns : goal.returns
returns c format brief rows is =
    let row : ChangeRow = record {
      texts = record { principal = c.args.principal.now; action = c.args.action.now; resource = c.args.resource.now };
      change = c.args.change;
      before = c.args.before.now;
      after = c.args.after.now;
    } in
    let same = c.self.view_is ∙ is in
    let new = string_bytes c.push_str.new.self in
    let old = (made_of format brief rows).text in
    let text : new ≡ old ++ change_row format brief (comma_if (has_some false rows)) row =
    c.in_ok-push_str.ensures.bytes ∙ ap (λ (v : ChangeRowsValue). v.text ++ c.as_str.result.now) same
    ∙ ap (λ (t : List ℕ). old ++ t)
    (c.as_str.ensures.value ∙ c.in_ok-row.ensures ∙ ap (λ (v : ChangeRowsValue). change_row v.format v.brief (comma_if v.some) row) same) in
    let made : ChangeRowsValue → ChangeRowsValue = λ v. record { format = v.format; brief = v.brief; some = true; text = new } in
    ap made same ∙ made_more format brief rows row new text
