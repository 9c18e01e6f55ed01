-- What is asked of a world has one report.
use Rattle.std.proofs.Common.{◌≡◌, inl, inr, ℕ, ◌+◌, true, false, List, [], ◌∷◌, Option, None, Some, refl, sym, ap, ◌∙◌, subst, arith}
use Rattle.std.specs.List.{AllZip}
use Rattle.std.proofs.lemmas.Bool.{cases_order}
use Rattle.iam_layers.specs.Cell.{IsDecisionOf, IsVerdictOf}
use Rattle.iam_layers.specs.Laws.{OneDecisionOf, OneTriple, OneVerdictOf}
use Rattle.iam_world.specs.World.{WorldValue, world_cells}
use Rattle.iam_row.specs.Laws.{OneRow}
use Rattle.iam_row.specs.Report.{CellTexts, IsCellTexts, brief_layout, full_layout}
use Rattle.iam_row.specs.declared.quoted.Format.TheVariants.{Csv, Json}
use Rattle.iam_row.proofs.Rows.{found, one_texts}
use Rattle.iam_matrix.specs.Report.{IsFirstText}
use Rattle.iam_matrix.proofs.OneMatrix.{none_allowed, one_first_text}
use Rattle.iam_selection.specs.Laws
use Rattle.iam_selection.specs.Report.{IsListing, IsRowOf}
use Rattle.iam_selection.specs.Selection.{IsAsked, IsFirstSelected, IsPassed, IsWanted, SelectionValue}
use Rattle.iam_selection.proofs.Picks.{one_pick}

-- items that belong to the same ones are the same
one_zip : {A B : Type 0} (R : A → B → Type 0) → ((x : A) (y z : B) → R x y → R x z → y ≡ z) → (xs : List A) (ys zs : List B) → AllZip R xs ys → AllZip R xs zs → ys ≡ zs
one_zip R one [] [] [] h k = refl
one_zip R one [] [] (z ∷ zs) h k = absurd k
one_zip R one [] (y ∷ ys) zs h k = absurd h
one_zip R one (x ∷ xs) [] zs h k = absurd h
one_zip R one (x ∷ xs) (y ∷ ys) [] h k = absurd k
one_zip R one (x ∷ xs) (y ∷ ys) (z ∷ zs) h k = ap (λ w. w ∷ ys) (one x y z h.0 k.0) ∙ ap (λ ws. z ∷ ws) (one_zip R one xs ys zs h.1 k.1)

one_row : {X B : Type 0} (world : WorldValue) (Is : ℕ → X → Type 0) (row : ℕ → CellTexts → X → B) → ((cell : ℕ) (x y : X) → Is cell x → Is cell y → x ≡ y)
    → (cell : ℕ) (made other : B) → IsRowOf world Is row cell made → IsRowOf world Is row cell other → made ≡ other
one_row world Is row one cell made other (t, x, are, is, e) (u, y, are', is', f) =
    e ∙ ap (λ k. row cell k x) (one_texts world cell t u are are') ∙ ap (row cell u) (one cell x y is is') ∙ sym f

-- a row that is asked for is not passed over
not_both : OneDecisionOf → (selection : SelectionValue) (world : WorldValue) (cell : ℕ) → IsAsked selection world cell → ¬ IsPassed selection world cell
not_both decisions selection world cell asked passed = elim passed [
  | inl not ↦ not asked.selected
  | inr (decision, is, unwanted) ↦ unwanted (subst (IsWanted selection) (decisions world cell asked.decision decision asked.is is) asked.wanted)
]

one_listing : {X B : Type 0} (selection : SelectionValue) (world : WorldValue) (Is : ℕ → X → Type 0) (row : ℕ → CellTexts → X → B) (whole : List B → List ℕ)
    → OneDecisionOf → ((cell : ℕ) (x y : X) → Is cell x → Is cell y → x ≡ y) → (text other : List ℕ)
    → IsListing selection world Is row whole text → IsListing selection world Is row whole other → text ≡ other
one_listing selection world Is row whole decisions one text other (cells, rows, picked, zip, e) (cells', rows', picked', zip', f) =
    let same : cells ≡ cells' = one_pick (IsAsked selection world) (IsPassed selection world) 0 (world_cells world) cells cells' (not_both decisions selection world) picked picked' in
    let rows_same = one_zip (IsRowOf world Is row) (one_row world Is row one) cells' rows rows' (subst (λ cs. AllZip (IsRowOf world Is row) cs rows) same zip) zip' in
    e ∙ ap whole rows_same ∙ sym f

pub one_selected : OneVerdictOf → OneDecisionOf → Laws.OneSelectedReport
one_selected verdicts decisions Csv true selection world text other h k =
    one_listing selection world (IsDecisionOf world) brief_layout.line _ decisions (decisions world) text other h k
one_selected verdicts decisions Csv false selection world text other h k =
    one_listing selection world (IsVerdictOf world) full_layout.line _ decisions (verdicts world) text other h k
one_selected verdicts decisions Json true selection world text other h k =
    one_listing selection world (IsDecisionOf world) brief_layout.object _ decisions (decisions world) text other h k
one_selected verdicts decisions Json false selection world text other h k =
    one_listing selection world (IsVerdictOf world) full_layout.object _ decisions (verdicts world) text other h k

-- the first cell that is asked for and allowed
one_first : OneDecisionOf → (selection : SelectionValue) (world : WorldValue) (first other : Option ℕ) → IsFirstSelected selection world first
    → IsFirstSelected selection world other → first ≡ other
one_first decisions selection world None None h k = refl
one_first decisions selection world None (Some cell) h k = absurd (none_allowed decisions world cell (h cell k.0 k.1) k.2)
one_first decisions selection world (Some cell) None h k = absurd (none_allowed decisions world cell (k cell h.0 h.1) h.2)
one_first decisions selection world (Some cell) (Some other) h k = elim (cases_order cell other) [
  | inl same ↦ ap Some same
  | inr (inl lower) ↦ absurd (none_allowed decisions world cell (k.3 cell lower h.1) h.2)
  | inr (inr higher) ↦ absurd (none_allowed decisions world other (h.3 other higher k.1) k.2)
]

pub one_first_selected : OneDecisionOf → OneTriple → OneRow brief_layout → Laws.OneFirstSelectedReport
one_first_selected decisions triples rows selection world text other (first, h, is) (more, k, there) =
    one_first_text triples rows world more text other (subst (λ f. IsFirstText world f text) (one_first decisions selection world first more h k) is) there

-- the row of a cell among the rows of all
stands : {X B : Type 0} (Is : WorldValue → ℕ → X → Type 0) (row : ℕ → CellTexts → X → B) → ((world : WorldValue) (cell : ℕ) (x y : X) → Is world cell x → Is world cell y → x ≡ y)
    → Laws.StandsInAll Is row
stands Is row one world entries all cell made are rows inside (texts, entry, has, is, e) =
    let (other, at) = found entries cell inside in
    let number : 0 + cell ≡ cell = omega arith in
    let same : entry ≡ other = one world cell entry other is (subst (λ k. Is world k other) number (are cell other at)) in
    rows.each cell texts other (subst (λ k. IsCellTexts world k texts) (sym number) has) at
    ∙ ap Some (ap (λ k. row k texts other) number ∙ ap (row cell texts) (sym same) ∙ sym e)

pub each_stands : OneVerdictOf → OneDecisionOf → Laws.EachStandsInAll
each_stands verdicts decisions = record {
  lines = stands IsVerdictOf full_layout.line verdicts;
  brief_lines = stands IsDecisionOf brief_layout.line decisions;
  objects = stands IsVerdictOf full_layout.object verdicts;
  brief_objects = stands IsDecisionOf brief_layout.object decisions;
}
