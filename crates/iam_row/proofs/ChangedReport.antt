-- Rows of what has changed, one behind the other, are their report.
use Rattle.std.proofs.Common.{◌≡◌, ℕ, List, [], ◌∷◌, ◌++◌, Bool, true, false, codes, map, refl, sym, ap, ◌∙◌, append_assoc, append-nil}
use Rattle.std.specs.List.{concat}
use Rattle.serde_json.specs.Data.{Data}
use Rattle.serde_json.specs.View.{items_of}
use Rattle.serde_json.specs.Written.{compact_text, items_text}
use Rattle.iam_row.specs.Changes.{ChangeRow, brief_header, brief_object, changes_text, full_header, full_object}
use Rattle.iam_row.specs.Code.ChangeParts.{ChangeRowsValue, change_row, changes_opening, comma_if, fields_of, has_some, made_of, object_of, rows_behind}
use Rattle.iam_row.specs.Piece.{closing_text}
use Rattle.iam_row.specs.Report.{csv_line, json_text}
use Rattle.iam_row.specs.declared.quoted.Format.{Format}
use Rattle.iam_row.specs.declared.quoted.Format.TheVariants.{Csv, Json}

-- ---- one more row

some_behind : (rows : List ChangeRow) → has_some true rows ≡ true
some_behind [] = refl
some_behind (row ∷ rows) = refl

pub some_more : (some : Bool) (rows : List ChangeRow) (last : ChangeRow) → has_some some (rows ++ last ∷ []) ≡ true
some_more some [] last = refl
some_more some (row ∷ rows) last = refl

rows_more : (format : Format) (brief some : Bool) (rows : List ChangeRow) (last : ChangeRow)
    → rows_behind format brief some (rows ++ last ∷ []) ≡ rows_behind format brief some rows ++ change_row format brief (comma_if (has_some some rows)) last
rows_more format brief some [] last = append-nil (change_row format brief (comma_if some) last)
rows_more format brief some (row ∷ rows) last =
    let here = change_row format brief (comma_if some) row in
    let rest = rows_behind format brief true rows in
    ap (λ t. here ++ t) (rows_more format brief true rows last)
    ∙ ap (λ b. here ++ (rest ++ change_row format brief (comma_if b) last)) (some_behind rows)
    ∙ sym (append_assoc here rest (change_row format brief (comma_if true) last))

-- what is made of rows and one more
pub made_more : (format : Format) (brief : Bool) (rows : List ChangeRow) (last : ChangeRow) (text : List ℕ)
    → text ≡ (made_of format brief rows).text ++ change_row format brief (comma_if (has_some false rows)) last
    → record { format = format; brief = brief; some = true; text = text } ≡ made_of format brief (rows ++ last ∷ [])
made_more format brief rows last text is =
    let made : Bool → List ℕ → ChangeRowsValue = λ some t. record { format = format; brief = brief; some = some; text = t } in
    let opening = changes_opening format brief in
    let more = change_row format brief (comma_if (has_some false rows)) last in
    ap (made true) (is ∙ append_assoc opening (rows_behind format brief false rows) more ∙ ap (λ t. opening ++ t) (sym (rows_more format brief false rows last)))
    ∙ ap (λ b. made b (opening ++ rows_behind format brief false (rows ++ last ∷ []))) (sym (some_more false rows last))

-- ---- the whole report

lines_of : (brief some : Bool) (rows : List ChangeRow) → rows_behind Csv brief some rows ≡ concat (map (λ row. csv_line (fields_of brief row)) rows)
lines_of brief some [] = refl
lines_of brief some (row ∷ rows) = ap (λ t. csv_line (fields_of brief row) ++ t) (lines_of brief true rows)

-- objects, and the bracket that closes their list
objects_of : (brief some : Bool) (rows : List ChangeRow) → rows_behind Json brief some rows ++ codes "]" ≡ items_text some (items_of (map (object_of brief) rows))
objects_of brief true [] = refl
objects_of brief false [] = refl
objects_of brief true (row ∷ rows) =
    let made = compact_text (object_of brief row) in
    let rest = rows_behind Json brief true rows in
    append_assoc (codes "," ++ made) rest (codes "]") ∙ append_assoc (codes ",") made (rest ++ codes "]")
    ∙ ap (λ t. codes "," ++ (made ++ t)) (objects_of brief true rows)
objects_of brief false (row ∷ rows) =
    let made = compact_text (object_of brief row) in
    append_assoc made (rows_behind Json brief true rows) (codes "]") ∙ ap (λ t. made ++ t) (objects_of brief true rows)

line_text : (header rows lines : List ℕ) → rows ≡ lines → (header ++ rows) ++ [] ≡ header ++ lines
line_text header rows lines e = append-nil (header ++ rows) ∙ ap (λ t. header ++ t) e

object_text : (rows : List ℕ) (objects : List Data) → rows ++ codes "]" ≡ items_text false (items_of objects)
    → (codes "[" ++ rows) ++ codes "]\n" ≡ json_text objects
object_text rows objects e = ap (λ t. codes "[" ++ t) (sym (append_assoc rows (codes "]") (codes "\n")) ∙ ap (λ t. t ++ codes "\n") e)

pub whole : (format : Format) (brief : Bool) (rows : List ChangeRow) → (made_of format brief rows).text ++ closing_text format ≡ changes_text format brief rows
whole Csv true rows = line_text (csv_line brief_header) _ _ (lines_of true false rows)
whole Csv false rows = line_text (csv_line full_header) _ _ (lines_of false false rows)
whole Json true rows = object_text _ (map brief_object rows) (objects_of true false rows)
whole Json false rows = object_text _ (map full_object rows) (objects_of false false rows)
