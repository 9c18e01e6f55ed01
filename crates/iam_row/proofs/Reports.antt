-- Rows of cells between an opening and a closing are a report.
use Rattle.std.proofs.Common.{◌≡◌, ℕ, suc, ◌+◌, ◌<◌, List, [], ◌∷◌, ◌++◌, Bool, true, false, not, ◌==◌, if◌then◌else◌, codes, length, Some, refl, sym, ap, ◌∙◌, subst, arith, append_assoc, append-nil}
use Rattle.std.proofs.lemmas.Bool.Decides.{nat_tests}
use Rattle.std.specs.List.{concat}
use Rattle.serde_json.specs.Data.{Data}
use Rattle.serde_json.specs.View.{items_of}
use Rattle.serde_json.specs.Written.{comma_if, compact_text, items_text}
use Rattle.iam_decision.specs.declared.verdict.Decision.{Decision}
use Rattle.iam_decision.specs.declared.verdict.Verdict.{Verdict}
use Rattle.iam_world.specs.World.{WorldValue}
use Rattle.iam_row.specs.Piece.{cell_row, closing_text, comma_before, opening_text}
use Rattle.iam_row.specs.Report.{AreRowsFrom, CellTexts, IsCellTexts, IsReport, brief_layout, full_layout, json_text}
use Rattle.iam_row.specs.declared.quoted.Format.{Format}
use Rattle.iam_row.specs.declared.quoted.Format.TheVariants.{Csv, Json}
use Rattle.iam_row.proofs.Rows.{AddsRows, both_rows, no_rows, one_row}

-- the rows without the first
other_rows : {A B : Type 0} (world : WorldValue) (row : ℕ → CellTexts → A → B) (from : ℕ) (x : A) (xs : List A) (r : B) (rows : List B)
    → AreRowsFrom world row from (x ∷ xs) (r ∷ rows) → AreRowsFrom world row (from + 1) xs rows
other_rows world row from x xs r rows are = record {
  count = omega (arith, are.count);
  each = λ i texts y is at.
      let cell : from + 1 + i ≡ from + suc i = omega arith in
      are.each (suc i) texts y (subst (λ c. IsCellTexts world c texts) cell is) at ∙ ap (λ c. Some (row c texts y)) (sym cell);
}

-- a comma stands before each row but that of cell 0
same_comma : (first : Bool) → (if first then [] else codes ",") ≡ comma_if (not first)
same_comma true = refl
same_comma false = refl

-- the row of an object
abbrev object_row : {A : Type 0} → (ℕ → CellTexts → A → Data) → ℕ → CellTexts → A → List ℕ
object_row object cell texts x = comma_before cell ++ compact_text (object cell texts x)

-- rows of objects, and the bracket that closes their list
object_rows : {A : Type 0} (world : WorldValue) (object : ℕ → CellTexts → A → Data) (from : ℕ) (xs : List A) (rows : List (List ℕ)) → AreRowsFrom world (object_row object) from xs rows
    → ((i : ℕ) → i < length xs → (texts : CellTexts) × IsCellTexts world (from + i) texts)
    → (objects : List Data) × AreRowsFrom world object from xs objects × (concat rows ++ codes "]" ≡ items_text (not (from == 0)) (items_of objects))
object_rows world object from [] [] are there = ([], no_rows world object from, refl)
object_rows world object from [] (r ∷ rows) are there = absurd (omega (arith, are.count))
object_rows world object from (x ∷ xs) [] are there = absurd (omega (arith, are.count))
object_rows {A} world object from (x ∷ xs) (r ∷ rows) are there =
    let texts = there 0 (omega arith) in
    let cell : from + 0 ≡ from = omega arith in
    let is : IsCellTexts world from texts.0 = subst (λ c. IsCellTexts world c texts.0) cell texts.1 in
    let later : (i : ℕ) → i < length xs → (t : CellTexts) × IsCellTexts world (from + 1 + i) t = λ i h.
    let t = there (suc i) (omega arith) in
    let e : from + suc i ≡ from + 1 + i = omega arith in (t.0, subst (λ c. IsCellTexts world c t.0) e t.1) in
    let rest = object_rows world object (from + 1) xs rows (other_rows world (object_row object) from x xs r rows are) later in
    let row : Some r ≡ Some (object_row object from texts.0 x) = are.each 0 texts.0 x texts.1 refl ∙ ap (λ c. Some (object_row object c texts.0 x)) cell in
    let same : r ≡ object_row object from texts.0 x = cc in
    let text : Data = object from texts.0 x in
    let more : not (from + 1 == 0) ≡ true = grind (arith, nat_tests) in (
      text ∷ rest.0,
      both_rows world object from (x ∷ []) xs (text ∷ []) rest.0 (one_row world object from texts.0 x is) rest.1,
      ap (λ t. (t ++ concat rows) ++ codes "]") same
          ∙ ap (λ t. ((t ++ compact_text text) ++ concat rows) ++ codes "]") (same_comma (from == 0))
          ∙ append_assoc (comma_if (not (from == 0)) ++ compact_text text) (concat rows) (codes "]")
          ∙ append_assoc (comma_if (not (from == 0))) (compact_text text) (concat rows ++ codes "]")
          ∙ ap (λ t. comma_if (not (from == 0)) ++ (compact_text text ++ t)) (rest.2 ∙ ap (λ b. items_text b (items_of rest.0)) more),
    )

lines_report : {A : Type 0} (world : WorldValue) (line : ℕ → CellTexts → A → List ℕ) (xs : List A) (header text : List ℕ) → AddsRows world line 0 xs header text
    → (lines : List (List ℕ)) × AreRowsFrom world line 0 xs lines × (text ++ [] ≡ header ++ concat lines)
lines_report world line xs header text adds = (adds.rows, adds.are, append-nil text ∙ adds.text)

objects_report : {A : Type 0} (world : WorldValue) (object : ℕ → CellTexts → A → Data) (xs : List A) (text : List ℕ) → AddsRows world (object_row object) 0 xs (codes "[") text
    → (objects : List Data) × AreRowsFrom world object 0 xs objects × (text ++ codes "]\n" ≡ json_text objects)
objects_report world object xs text adds =
    let all = object_rows world object 0 xs adds.rows adds.are adds.there in (
      all.0,
      all.1,
      ap (λ t. t ++ codes "]\n") adds.text ∙ ap (λ t. codes "[" ++ t) (sym (append_assoc (concat adds.rows) (codes "]") (codes "\n")) ∙ ap (λ t. t ++ codes "\n") all.2),
    )

pub full_is_report : (world : WorldValue) (format : Format) (verdicts : List Verdict) (text : List ℕ) → AddsRows world (cell_row full_layout format) 0 verdicts (opening_text format false) text
    → IsReport full_layout format world verdicts (text ++ closing_text format)
full_is_report world Csv verdicts text adds = lines_report world (cell_row full_layout Csv) verdicts _ text adds
full_is_report world Json verdicts text adds = objects_report world full_layout.object verdicts text adds

pub brief_is_report : (world : WorldValue) (format : Format) (decisions : List Decision) (text : List ℕ) → AddsRows world (cell_row brief_layout format) 0 decisions (opening_text format true) text
    → IsReport brief_layout format world decisions (text ++ closing_text format)
brief_is_report world Csv decisions text adds = lines_report world (cell_row brief_layout Csv) decisions _ text adds
brief_is_report world Json decisions text adds = objects_report world brief_layout.object decisions text adds
