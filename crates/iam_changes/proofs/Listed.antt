-- Rows of changes, put together from pieces one behind the other, are their report.
use Rattle.std.proofs.Common.{◌≡◌, ℕ, ◌<◌, ◌==◌, Bool, true, false, List, [], ◌∷◌, ◌++◌, codes, if◌then◌else◌, map, refl, sym, ap, ◌∙◌, arith, append_assoc, append-nil, subst}
use Rattle.std.specs.Bool.{⊤}
use Rattle.std.specs.List.{AllByRecursion, concat}
use Rattle.std.proofs.lemmas.Bool.Decides.{nat_tests}
use Rattle.serde_json.specs.Data.{Data}
use Rattle.serde_json.specs.View.{items_of}
use Rattle.serde_json.specs.Written.{compact_text, items_text}
use Rattle.iam_row.specs.Changes.{brief_header, brief_object, changes_text, full_header, full_object}
use Rattle.iam_row.specs.Code.ChangeParts.{change_row, changes_opening, fields_of, object_of}
use Rattle.iam_row.specs.Piece.{closing_text}
use Rattle.iam_row.specs.Report.{csv_line, json_text}
use Rattle.iam_row.specs.declared.quoted.Format.{Format}
use Rattle.iam_row.specs.declared.quoted.Format.TheVariants.{Csv, Json}
use Rattle.iam_row.specs.declared.tail.Tail.{Tail}
use Rattle.iam_report.specs.Code.Place.{comma_of}
use Rattle.iam_changes.specs.Change.{ChangeValue}
use Rattle.iam_changes.specs.Code.Kept.{pair_in, part_row}
use Rattle.iam_changes.specs.Code.Pieces.{lead_of, report_text, row_text, rows_text}
use Rattle.iam_changes.specs.Report.{row_of}
use Rattle.iam_changes.specs.declared.change.Kinds.{Kinds}
use Rattle.iam_changes.specs.declared.text.Pieces.{Pieces}

-- the row of a change with its cell
abbrev pub cell_row : Format → Bool → ℕ × ChangeValue → ℕ × Tail
cell_row format brief row = part_row format brief (row.0, pair_in brief row.1)

abbrev pub change_in : ℕ × ChangeValue → ChangeValue
change_in row = row.1

-- it is written as it has to be
pub record IsWritten (pieces : Pieces) (format : Format) (brief : Bool) (row : ℕ × ChangeValue) : Type 0 where
  pub text : row_text pieces (cell_row format brief row) ≡ change_row format brief (comma_of pieces.lead row.0) (row_of row.1)

-- it stands behind the first
pub record IsBehind (lead : ℕ) (row : ℕ × ChangeValue) : Type 0 where
  pub above : lead < row.0

-- the rows behind the first are of cells above it
abbrev pub IsLed : List (ℕ × ChangeValue) → Type 0
IsLed [] = ⊤
IsLed (row ∷ rows) = AllByRecursion (IsBehind row.0) rows

-- ---- lines

lines_of : (pieces : Pieces) (brief : Bool) (rows : List (ℕ × ChangeValue)) → AllByRecursion (IsWritten pieces Csv brief) rows
    → rows_text pieces (map (cell_row Csv brief) rows) ≡ concat (map (λ row. csv_line (fields_of brief row)) (map row_of (map change_in rows)))
lines_of pieces brief [] all = refl
lines_of pieces brief (row ∷ rows) (here, all) =
    ap (λ t. t ++ rows_text pieces (map (cell_row Csv brief) rows)) here.text ∙ ap (λ t. csv_line (fields_of brief (row_of row.1)) ++ t) (lines_of pieces brief rows all)

-- ---- objects

no_comma : (lead : ℕ) → comma_of lead lead ≡ []
no_comma lead = let same : (lead == lead) ≡ true = grind (arith, nat_tests) in ap (λ b. if b then [] else codes ",") same

a_comma : (lead cell : ℕ) → lead < cell → comma_of lead cell ≡ codes ","
a_comma lead cell above = let other : (cell == lead) ≡ false = grind (arith, nat_tests) in ap (λ b. if b then [] else codes ",") other

-- objects behind the first, and the bracket that closes their list
objects_behind : (pieces : Pieces) (brief : Bool) (rows : List (ℕ × ChangeValue)) → AllByRecursion (IsWritten pieces Json brief) rows → AllByRecursion (IsBehind pieces.lead) rows
    → rows_text pieces (map (cell_row Json brief) rows) ++ codes "]" ≡ items_text true (items_of (map (object_of brief) (map row_of (map change_in rows))))
objects_behind pieces brief [] all behind = refl
objects_behind pieces brief (row ∷ rows) (here, all) (first, behind) =
    let rest = rows_text pieces (map (cell_row Json brief) rows) in
    let made = compact_text (object_of brief (row_of row.1)) in
    ap (λ t. (t ++ rest) ++ codes "]") (here.text ∙ ap (λ c. c ++ made) (a_comma pieces.lead row.0 first.above))
    ∙ append_assoc (codes "," ++ made) rest (codes "]") ∙ append_assoc (codes ",") made (rest ++ codes "]")
    ∙ ap (λ t. codes "," ++ (made ++ t)) (objects_behind pieces brief rows all behind)

-- objects from the first on
objects_of : (pieces : Pieces) (brief : Bool) (rows : List (ℕ × ChangeValue)) → AllByRecursion (IsWritten pieces Json brief) rows → IsLed rows
    → pieces.lead ≡ lead_of (map (cell_row Json brief) rows)
    → rows_text pieces (map (cell_row Json brief) rows) ++ codes "]" ≡ items_text false (items_of (map (object_of brief) (map row_of (map change_in rows))))
objects_of pieces brief [] all led lead = refl
objects_of pieces brief (row ∷ rows) (here, all) led lead =
    let rest = rows_text pieces (map (cell_row Json brief) rows) in
    let made = compact_text (object_of brief (row_of row.1)) in
    let P : ℕ → Type 0 = λ n. AllByRecursion (IsBehind n) rows in
    ap (λ t. (t ++ rest) ++ codes "]") (here.text ∙ ap (λ n. comma_of n row.0 ++ made) lead ∙ ap (λ c. c ++ made) (no_comma row.0))
    ∙ append_assoc made rest (codes "]") ∙ ap (λ t. made ++ t) (objects_behind pieces brief rows all (subst P (sym lead) led))

-- ---- the report

line_text : (header rows lines : List ℕ) → rows ≡ lines → header ++ (rows ++ []) ≡ header ++ lines
line_text header rows lines e = ap (λ t. header ++ t) (append-nil rows ∙ e)

object_text : (rows : List ℕ) (objects : List Data) → rows ++ codes "]" ≡ items_text false (items_of objects) → codes "[" ++ (rows ++ codes "]\n") ≡ json_text objects
object_text rows objects e = ap (λ t. codes "[" ++ t) (sym (append_assoc rows (codes "]") (codes "\n")) ∙ ap (λ t. t ++ codes "\n") e)

-- rows between what stands before and after them
between : (format : Format) (brief : Bool) (pieces : Pieces) (rows : List (ℕ × ChangeValue)) → AllByRecursion (IsWritten pieces format brief) rows → IsLed rows
    → pieces.lead ≡ lead_of (map (cell_row format brief) rows)
    → changes_opening format brief ++ (rows_text pieces (map (cell_row format brief) rows) ++ closing_text format) ≡ changes_text format brief (map row_of (map change_in rows))
between Csv true pieces rows all led lead = line_text (csv_line brief_header) _ _ (lines_of pieces true rows all)
between Csv false pieces rows all led lead = line_text (csv_line full_header) _ _ (lines_of pieces false rows all)
between Json true pieces rows all led lead = object_text _ (map brief_object (map row_of (map change_in rows))) (objects_of pieces true rows all led lead)
between Json false pieces rows all led lead = object_text _ (map full_object (map row_of (map change_in rows))) (objects_of pieces false rows all led lead)

pub listed : (format : Format) (brief : Bool) (pieces : Pieces) (kinds : Kinds) (rows : List (ℕ × ChangeValue)) → pieces.after.format ≡ format
    → pieces.lead ≡ lead_of (map (cell_row format brief) rows) → AllByRecursion (IsWritten pieces format brief) rows → IsLed rows
    → report_text (record { pieces = pieces; brief = brief; rows = map (cell_row format brief) rows; kinds = kinds }) ≡ changes_text format brief (map row_of (map change_in rows))
listed format brief pieces kinds rows made lead all led =
    ap (λ f. changes_opening f brief ++ (rows_text pieces (map (cell_row format brief) rows) ++ closing_text f)) made ∙ between format brief pieces rows all led lead
