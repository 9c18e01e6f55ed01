use Rattle.std.proofs.Common.{◌≡◌, ◌++◌, ◌∙◌, Global, List, String, ℕ, ap, string_bytes, sym}
use Rattle.std.proofs.lemmas.Result.{MatchResult-from_err, on_err_weaker}
use Rattle.std.specs.List.{flat_map}
use Rattle.iam_report.proofs.Buffered.{end_fails, rows_fail}
use Rattle.iam_row.specs.Piece.{closing_text}
use Rattle.iam_row.specs.declared.quoted.Format.{Format}
use Rattle.iam_every.proofs.text.EveryText.write_to.Goals as goal

-- the parts of the whole text
parts : (format : Format) (opening : List ℕ) (items texts : List (String Global)) (whole : List ℕ)
    → opening ++ (flat_map string_bytes items ++ closing_text format) ≡ whole → texts ≡ items
    → whole ≡ opening ++ (flat_map string_bytes texts ++ closing_text format)
parts format opening items texts whole is same = sym is ∙ ap (λ l. opening ++ (flat_map string_bytes l ++ closing_text format)) (sym same)

pub returns-in_err-put_texts-clause-err : goal.returns-in_err-put_texts-clause-err
returns-in_err-put_texts-clause-err g c =
    MatchResult-from_err _ _ _ c.from_residual-in_err-put_texts.ensures.0
    (λ _. rows_fail _ _ _ _ _ _ _ _ _ c.requires (parts _ _ _ _ _ c.self.view_is c.as_slice.ensures.value) c.in_ok-put.ensures.ok c.in_err-put_texts.ensures.err)

pub returns-clause-err : goal.returns-clause-err
returns-clause-err g c =
    on_err_weaker c.write_end.result
    (end_fails _ _ _ _ _ _ _ _ _ _ _ c.requires (parts _ _ _ _ _ c.self.view_is c.as_slice.ensures.value) c.in_ok-put.ensures.ok c.in_ok-put_texts.ensures.ok)
    c.write_end.ensures.err
