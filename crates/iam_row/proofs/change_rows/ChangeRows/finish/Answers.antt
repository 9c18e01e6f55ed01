use Rattle.std.proofs.Common.{◌++◌, List, ℕ, Vec, Global, ap, ◌∙◌}
use Rattle.iam_row.specs.Code.ChangeParts.{ChangeRowsValue, made_of}
use Rattle.iam_row.specs.Piece.{closing_text}
use Rattle.iam_row.proofs.ChangedReport.{whole}
use Rattle.iam_row.proofs.change_rows.ChangeRows.finish.Goals as goal

pub returns : goal.returns
returns c format brief rows is =
    let same = c.self.view_is ∙ is in
    ap (λ (v : Vec ℕ Global). v.items) c.into_bytes.ensures.value ∙ c.in_ok-push_str.ensures.bytes
    ∙ ap (λ (v : ChangeRowsValue). v.text ++ c.closing.result.now) same
    ∙ ap (λ (t : List ℕ). (made_of format brief rows).text ++ t) (c.closing.ensures ∙ ap (λ (v : ChangeRowsValue). closing_text v.format) same)
    ∙ whole format brief rows
