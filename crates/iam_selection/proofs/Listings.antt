-- Rows that are put together from pieces are the report of what is asked.
use Rattle.std.proofs.Common.{◌≡◌, ℕ, ◌+◌, ◌/◌, ◌%◌, ◌<◌, ◌≤◌, ◌==◌, Bool, true, false, List, [], ◌∷◌, ◌++◌, codes, if◌then◌else◌, length, max, refl, sym, ap, subst, ◌∙◌, arith, append_assoc, append-nil}
use Rattle.std.specs.List.{AllByRecursion, AllZip, concat}
use Rattle.std.proofs.lemmas.Bool.Decides.{nat_tests}
use Rattle.std.proofs.lemmas.List.{append_cancel_left, length-map}
use Rattle.std.proofs.Math.Nat.{max-eq_left}
use Rattle.serde_json.specs.Data.{Data}
use Rattle.serde_json.specs.View.{items_of}
use Rattle.serde_json.specs.Written.{compact_text, items_text}
use Rattle.iam_decision.specs.declared.verdict.Decision.{Decision}
use Rattle.iam_decision.specs.declared.verdict.Verdict.{Verdict}
use Rattle.iam_layers.specs.Cell.{IsCell, IsDecisionOf, IsVerdictOf}
use Rattle.iam_layers.proofs.CellLemmas.{cell_parts}
use Rattle.iam_world.specs.World.{ResourceValue, WorldValue, world_cells}
use Rattle.iam_row.specs.Piece.{IsQuotedOf, action_piece, brief_tail, closing_text, comma_before, full_tail, opening_text, pieces_at, pieces_of, resource_piece, tail_of}
use Rattle.iam_row.specs.Report.{CellTexts, IsCellTexts, brief_layout, full_layout, json_text}
use Rattle.iam_row.specs.declared.quoted.Format.{Format}
use Rattle.iam_row.specs.declared.quoted.Format.TheVariants.{Csv, Json}
use Rattle.iam_row.specs.declared.quoted.Quoted.{Quoted}
use Rattle.iam_row.proofs.Rendered.{brief_rendered, full_rendered}
use Rattle.iam_row.proofs.Rows.{texts_there}
use Rattle.iam_row.proofs.Texts.{pieces_there}
use Rattle.iam_report.specs.Code.Line.{row_behind, text_behind}
use Rattle.iam_selection.specs.Report.{ArePicked, IsRowOf, IsSelectedReport}
use Rattle.iam_selection.specs.Selection.{IsAsked, IsPassed, SelectionValue}
use Rattle.iam_report.specs.Code.Place.{comma_of, position_in}
use Rattle.iam_selection.specs.Code.Listing.{AreFound, IsTailed, RowValue, lead_of, rows_text}
use Rattle.iam_selection.proofs.Founds.{cells_of}
use Rattle.iam_selection.proofs.Picks.{IsBetween, picked_each, picked_rest}

-- ---- pieces

-- the texts of a cell, and its pieces
record HasPieces (world : WorldValue) (quoted : Quoted) (cell : ℕ) : Type 0 where
  texts : CellTexts
  are : IsCellTexts world cell texts
  pieces : pieces_at quoted (position_in quoted cell) ≡ pieces_of quoted.format texts

-- as many pieces as there are, where there is one
one_at_least : (n m : ℕ) → n ≡ m → 0 < m → max n 1 ≡ m
one_at_least n m e some = let most : 1 ≤ n = omega (arith, e, some) in max-eq_left most ∙ e

pieces_in : (world : WorldValue) (quoted : Quoted) (cell : ℕ) → IsQuotedOf world quoted → cell < world_cells world → HasPieces world quoted cell
pieces_in world quoted cell same below =
    let P = length world.principals in
    let A = length world.actions in
    let R = length world.resources in
    let parts = cell_parts P A R cell below in
    let is : IsCell world cell (cell / R / A) (cell / R % A) (cell % R) = record { principal = parts.0; action = parts.1; resource = parts.2; number = parts.3 } in
    let texts = texts_there world cell (cell / R / A) (cell / R % A) (cell % R) is in
    let at : ℕ → ℕ → CellTexts = λ r a. pieces_at quoted (record { cell = cell; principal = cell / r / a; action = cell / r % a; resource = cell % r }) in
    let resources : max (length quoted.resources) 1 ≡ R =
    one_at_least (length quoted.resources) R
    (ap (λ (xs : List (List ℕ)). length xs) same.resources ∙ length-map world.resources (λ (resource : ResourceValue). resource_piece quoted.format resource.arn)) (omega (arith, parts.2)) in
    let actions : max (length quoted.actions) 1 ≡ A =
    one_at_least (length quoted.actions) A
    (ap (λ (xs : List (List ℕ)). length xs) same.actions ∙ length-map world.actions (action_piece quoted.format)) (omega (arith, parts.1)) in
    record {
      texts = texts.0;
      are = (cell / R / A, cell / R % A, cell % R, is, texts.1);
      pieces =
          ap (λ r. at r (max (length quoted.actions) 1)) resources ∙ ap (at R) actions
          ∙ pieces_there world quoted (record { cell = cell; principal = cell / R / A; action = cell / R % A; resource = cell % R }) texts.0 same texts.1;
    }

-- ---- rows

-- what stands behind the comma of an object
json_full : (comma : List ℕ) (cell : ℕ) (texts : CellTexts) (verdict : Verdict)
    → text_behind Json comma cell (pieces_of Json texts) (full_tail Json verdict) ≡ comma ++ compact_text (full_layout.object cell texts verdict)
json_full comma cell texts verdict = ap (λ t. comma ++ t) (append_cancel_left (comma_before cell) _ _ (full_rendered Json cell texts verdict))

json_brief : (comma : List ℕ) (cell : ℕ) (texts : CellTexts) (decision : Decision)
    → text_behind Json comma cell (pieces_of Json texts) (brief_tail Json decision) ≡ comma ++ compact_text (brief_layout.object cell texts decision)
json_brief comma cell texts decision = ap (λ t. comma ++ t) (append_cancel_left (comma_before cell) _ _ (brief_rendered Json cell texts decision))

-- a row of a cell that is there, with the tail of its entry
record IsGood (format : Format) (brief : Bool) (world : WorldValue) (row : RowValue) : Type 0 where
  below : row.cell < world_cells world
  tailed : IsTailed format brief world row

-- the row of a cell, as a line, or as an object with what stands before it
abbrev MakesLine : {X : Type 0} → WorldValue → (ℕ → X → Type 0) → (ℕ → CellTexts → X → List ℕ) → Quoted → RowValue → Type 0
MakesLine world Is line quoted row =
    (made : List ℕ) × IsRowOf world Is line row.cell made × ((comma : List ℕ) → row_behind quoted comma (position_in quoted row.cell) row.tail ≡ made)

abbrev MakesObject : {X : Type 0} → WorldValue → (ℕ → X → Type 0) → (ℕ → CellTexts → X → Data) → Quoted → RowValue → Type 0
MakesObject world Is object quoted row =
    (made : Data) × IsRowOf world Is object row.cell made
    × ((comma : List ℕ) → row_behind quoted comma (position_in quoted row.cell) row.tail ≡ comma ++ compact_text made)

full_csv : (world : WorldValue) (quoted : Quoted) (row : RowValue) → IsQuotedOf world quoted → quoted.format ≡ Csv → IsGood Csv false world row
    → MakesLine world (IsVerdictOf world) full_layout.line quoted row
full_csv world quoted row same format good =
    let has = pieces_in world quoted row.cell same good.below in
    let (verdict, is, tail) = good.tailed in
    let pieces = has.pieces ∙ ap (λ f. pieces_of f has.texts) format in (
      full_layout.line row.cell has.texts verdict,
      (has.texts, verdict, has.are, is, refl),
      λ comma. ap (λ f. text_behind f comma row.cell (pieces_at quoted (position_in quoted row.cell)) row.tail) format
          ∙ ap (λ p. text_behind Csv comma row.cell p row.tail) pieces ∙ ap (text_behind Csv comma row.cell (pieces_of Csv has.texts)) tail
          ∙ full_rendered Csv row.cell has.texts verdict,
    )

brief_csv : (world : WorldValue) (quoted : Quoted) (row : RowValue) → IsQuotedOf world quoted → quoted.format ≡ Csv → IsGood Csv true world row
    → MakesLine world (IsDecisionOf world) brief_layout.line quoted row
brief_csv world quoted row same format good =
    let has = pieces_in world quoted row.cell same good.below in
    let (verdict, (decision, is, bare), tail) = good.tailed in
    let pieces = has.pieces ∙ ap (λ f. pieces_of f has.texts) format in (
      brief_layout.line row.cell has.texts decision,
      (has.texts, decision, has.are, is, refl),
      λ comma. ap (λ f. text_behind f comma row.cell (pieces_at quoted (position_in quoted row.cell)) row.tail) format
          ∙ ap (λ p. text_behind Csv comma row.cell p row.tail) pieces
          ∙ ap (text_behind Csv comma row.cell (pieces_of Csv has.texts)) (tail ∙ ap (tail_of Csv true) bare)
          ∙ brief_rendered Csv row.cell has.texts decision,
    )

full_json : (world : WorldValue) (quoted : Quoted) (row : RowValue) → IsQuotedOf world quoted → quoted.format ≡ Json → IsGood Json false world row
    → MakesObject world (IsVerdictOf world) full_layout.object quoted row
full_json world quoted row same format good =
    let has = pieces_in world quoted row.cell same good.below in
    let (verdict, is, tail) = good.tailed in
    let pieces = has.pieces ∙ ap (λ f. pieces_of f has.texts) format in (
      full_layout.object row.cell has.texts verdict,
      (has.texts, verdict, has.are, is, refl),
      λ comma. ap (λ f. text_behind f comma row.cell (pieces_at quoted (position_in quoted row.cell)) row.tail) format
          ∙ ap (λ p. text_behind Json comma row.cell p row.tail) pieces ∙ ap (text_behind Json comma row.cell (pieces_of Json has.texts)) tail
          ∙ json_full comma row.cell has.texts verdict,
    )

brief_json : (world : WorldValue) (quoted : Quoted) (row : RowValue) → IsQuotedOf world quoted → quoted.format ≡ Json → IsGood Json true world row
    → MakesObject world (IsDecisionOf world) brief_layout.object quoted row
brief_json world quoted row same format good =
    let has = pieces_in world quoted row.cell same good.below in
    let (verdict, (decision, is, bare), tail) = good.tailed in
    let pieces = has.pieces ∙ ap (λ f. pieces_of f has.texts) format in (
      brief_layout.object row.cell has.texts decision,
      (has.texts, decision, has.are, is, refl),
      λ comma. ap (λ f. text_behind f comma row.cell (pieces_at quoted (position_in quoted row.cell)) row.tail) format
          ∙ ap (λ p. text_behind Json comma row.cell p row.tail) pieces
          ∙ ap (text_behind Json comma row.cell (pieces_of Json has.texts)) (tail ∙ ap (tail_of Json true) bare)
          ∙ json_brief comma row.cell has.texts decision,
    )

-- ---- all rows

-- lines, one behind the other
lines_of : {X : Type 0} (world : WorldValue) (Is : ℕ → X → Type 0) (line : ℕ → CellTexts → X → List ℕ) (quoted : Quoted) (lead : ℕ) (rows : List RowValue)
    → AllByRecursion (MakesLine world Is line quoted) rows
    → (lines : List (List ℕ)) × AllZip (IsRowOf world Is line) (cells_of rows) lines × (rows_text quoted lead rows ≡ concat lines)
lines_of world Is line quoted lead [] all = ([], tt, refl)
lines_of world Is line quoted lead (row ∷ rows) ((made, is, text), all) =
    let rest = lines_of world Is line quoted lead rows all in (
      made ∷ rest.0,
      (is, rest.1),
      ap (λ t. t ++ rows_text quoted lead rows) (text (comma_of lead row.cell)) ∙ ap (λ t. made ++ t) rest.2,
    )

-- a row behind the first
record IsBehind (lead : ℕ) (row : RowValue) : Type 0 where
  above : lead < row.cell

no_comma : (lead : ℕ) → comma_of lead lead ≡ []
no_comma lead = let same : (lead == lead) ≡ true = grind (arith, nat_tests) in ap (λ b. if b then [] else codes ",") same

a_comma : (lead cell : ℕ) → lead < cell → comma_of lead cell ≡ codes ","
a_comma lead cell above = let other : (cell == lead) ≡ false = grind (arith, nat_tests) in ap (λ b. if b then [] else codes ",") other

-- objects behind the first, and the bracket that closes their list
objects_behind : {X : Type 0} (world : WorldValue) (Is : ℕ → X → Type 0) (object : ℕ → CellTexts → X → Data) (quoted : Quoted) (lead : ℕ) (rows : List RowValue)
    → AllByRecursion (MakesObject world Is object quoted) rows → AllByRecursion (IsBehind lead) rows
    → (objects : List Data) × AllZip (IsRowOf world Is object) (cells_of rows) objects × (rows_text quoted lead rows ++ codes "]" ≡ items_text true (items_of objects))
objects_behind world Is object quoted lead [] all behind = ([], tt, refl)
objects_behind world Is object quoted lead (row ∷ rows) ((made, is, text), all) (first, behind) =
    let rest = objects_behind world Is object quoted lead rows all behind in
    let here = text (comma_of lead row.cell) ∙ ap (λ c. c ++ compact_text made) (a_comma lead row.cell first.above) in (
      made ∷ rest.0,
      (is, rest.1),
      ap (λ t. (t ++ rows_text quoted lead rows) ++ codes "]") here
          ∙ append_assoc (codes "," ++ compact_text made) (rows_text quoted lead rows) (codes "]")
          ∙ append_assoc (codes ",") (compact_text made) (rows_text quoted lead rows ++ codes "]")
          ∙ ap (λ t. codes "," ++ (compact_text made ++ t)) rest.2,
    )

-- objects from the first on
objects_of : {X : Type 0} (world : WorldValue) (Is : ℕ → X → Type 0) (object : ℕ → CellTexts → X → Data) (quoted : Quoted) (rows : List RowValue)
    → AllByRecursion (MakesObject world Is object quoted) rows
    → ((row : RowValue) (others : List RowValue) → rows ≡ row ∷ others → AllByRecursion (IsBehind row.cell) others)
    → (objects : List Data) × AllZip (IsRowOf world Is object) (cells_of rows) objects
    × (rows_text quoted (lead_of rows) rows ++ codes "]" ≡ items_text false (items_of objects))
objects_of world Is object quoted [] all behind = ([], tt, refl)
objects_of world Is object quoted (row ∷ rows) ((made, is, text), all) behind =
    let rest = objects_behind world Is object quoted row.cell rows all (behind row rows refl) in
    let here = text (comma_of row.cell row.cell) ∙ ap (λ c. c ++ compact_text made) (no_comma row.cell) in (
      made ∷ rest.0,
      (is, rest.1),
      ap (λ t. (t ++ rows_text quoted row.cell rows) ++ codes "]") here ∙ append_assoc (compact_text made) (rows_text quoted row.cell rows) (codes "]")
          ∙ ap (λ t. compact_text made ++ t) rest.2,
    )

-- ---- the report

-- rows that are picked are of cells that are there
good_rows : (format : Format) (brief : Bool) (world : WorldValue) (rows : List RowValue) → AllByRecursion (IsBetween 0 (0 + world_cells world)) (cells_of rows)
    → AllByRecursion (IsTailed format brief world) rows → AllByRecursion (IsGood format brief world) rows
good_rows format brief world [] inside tailed = tt
good_rows format brief world (row ∷ rows) (first, inside) (tail, tailed) = (record { below = omega (arith, first.below); tailed = tail }, good_rows format brief world rows inside tailed)

-- what is said of each row
each_row : {A : Type 0} (P Q : A → Type 0) → ((x : A) → P x → Q x) → (xs : List A) → AllByRecursion P xs → AllByRecursion Q xs
each_row P Q f [] all = tt
each_row P Q f (x ∷ xs) (here, all) = (f x here, each_row P Q f xs all)

cells_behind : (lead most : ℕ) (rows : List RowValue) → AllByRecursion (IsBetween (lead + 1) most) (cells_of rows) → AllByRecursion (IsBehind lead) rows
cells_behind lead most [] all = tt
cells_behind lead most (row ∷ rows) (first, all) = (record { above = omega (arith, first.least) }, cells_behind lead most rows all)

-- the rows behind the first are of cells above it
rows_behind : (P Q : ℕ → Type 0) (n : ℕ) (rows : List RowValue) → ArePicked P Q 0 n (cells_of rows)
    → (row : RowValue) (others : List RowValue) → rows ≡ row ∷ others → AllByRecursion (IsBehind row.cell) others
rows_behind P Q n rows picked row others e =
    let rest = picked_rest P Q 0 n row.cell (cells_of others) (subst (λ (rs : List RowValue). ArePicked P Q 0 n (cells_of rs)) e picked) in
    cells_behind row.cell (row.cell + 1 + rest.0) others (picked_each P Q (row.cell + 1) rest.0 (cells_of others) rest.2)

-- the texts of lines and of objects between what stands before and after them
line_text : (header rows lines : List ℕ) → rows ≡ lines → header ++ (rows ++ []) ≡ header ++ lines
line_text header rows lines e = ap (λ t. header ++ t) (append-nil rows ∙ e)

object_text : (rows : List ℕ) (objects : List Data) → rows ++ codes "]" ≡ items_text false (items_of objects) → codes "[" ++ (rows ++ codes "]\n") ≡ json_text objects
object_text rows objects e = ap (λ t. codes "[" ++ t) (sym (append_assoc rows (codes "]") (codes "\n")) ∙ ap (λ t. t ++ codes "\n") e)

pub listing : (format : Format) (brief : Bool) (selection : SelectionValue) (world : WorldValue) (quoted : Quoted) (rows : List RowValue) → IsQuotedOf world quoted
    → quoted.format ≡ format → AreFound format brief selection world 0 (world_cells world) rows
    → IsSelectedReport format brief selection world (opening_text format brief ++ (rows_text quoted (lead_of rows) rows ++ closing_text format))
listing Csv true selection world quoted rows same format found =
    let good = good_rows Csv true world rows (picked_each _ _ 0 (world_cells world) (cells_of rows) found.picked) found.tailed in
    let made = lines_of world (IsDecisionOf world) brief_layout.line quoted (lead_of rows) rows (each_row _ _ (λ row is. brief_csv world quoted row same format is) rows good) in
    (cells_of rows, made.0, found.picked, made.1, line_text brief_layout.header _ _ made.2)
listing Csv false selection world quoted rows same format found =
    let good = good_rows Csv false world rows (picked_each _ _ 0 (world_cells world) (cells_of rows) found.picked) found.tailed in
    let made = lines_of world (IsVerdictOf world) full_layout.line quoted (lead_of rows) rows (each_row _ _ (λ row is. full_csv world quoted row same format is) rows good) in
    (cells_of rows, made.0, found.picked, made.1, line_text full_layout.header _ _ made.2)
listing Json true selection world quoted rows same format found =
    let good = good_rows Json true world rows (picked_each _ _ 0 (world_cells world) (cells_of rows) found.picked) found.tailed in
    let made = objects_of world (IsDecisionOf world) brief_layout.object quoted rows (each_row _ _ (λ row is. brief_json world quoted row same format is) rows good)
    (rows_behind (IsAsked selection world) (IsPassed selection world) (world_cells world) rows found.picked) in
    (cells_of rows, made.0, found.picked, made.1, object_text _ made.0 made.2)
listing Json false selection world quoted rows same format found =
    let good = good_rows Json false world rows (picked_each _ _ 0 (world_cells world) (cells_of rows) found.picked) found.tailed in
    let made = objects_of world (IsVerdictOf world) full_layout.object quoted rows (each_row _ _ (λ row is. full_json world quoted row same format is) rows good)
    (rows_behind (IsAsked selection world) (IsPassed selection world) (world_cells world) rows found.picked) in
    (cells_of rows, made.0, found.picked, made.1, object_text _ made.0 made.2)
