-- One report of requests, and what it has in common with that of the matrix.
use Rattle.std.proofs.Common.{◌≡◌, ℕ, ◌+◌, ◌<◌, true, false, List, Some, length, sym, ap, ◌∙◌, subst, arith}
use Rattle.std.proofs.lemmas.Option.{same_Some, slice_get_within}
use Rattle.std.specs.List.{slice_get}
use Rattle.iam_layers.specs.Cell.{IsCell, IsDecisionAt, IsDecisionOf, IsVerdictAt, IsVerdictOf}
use Rattle.iam_layers.specs.Laws.{NoKeysChangeNoDecision, NoKeysChangeNoVerdict, OneOwnDecision, OneOwnVerdict, OneTriple, SomeTriple}
use Rattle.iam_world.specs.World.{WorldValue, world_cells}
use Rattle.iam_row.specs.Report.{AreRowsFrom, CellTexts, IsCellTexts, brief_layout, full_layout}
use Rattle.iam_row.specs.declared.quoted.Format.TheVariants.{Csv, Json}
use Rattle.iam_row.proofs.Rows.{found, same_texts, texts_there}
use Rattle.iam_matrix.specs.Matrix.{IsMatrix}
use Rattle.iam_matrix.proofs.OneMatrix.{one_entries}
use Rattle.iam_asked.specs.Request.{AskedValue, RequestsValue}
use Rattle.iam_ask.specs.Laws
use Rattle.iam_ask.specs.Laws.{AsksAllCells, plain}
use Rattle.iam_ask.specs.Report.{AreRows, HasAskedTexts, IsDecisionOn, IsRowOf, IsText, IsVerdictOn}

-- ---- one report

-- of a request there is one entry
abbrev One : {X : Type 0} → (WorldValue → AskedValue → X → Type 0) → Type 0
One {X} Is = (world : WorldValue) (asked : AskedValue) (x y : X) → Is world asked x → Is world asked y → x ≡ y

one_row : {X B : Type 0} (requests : RequestsValue) (Is : WorldValue → AskedValue → X → Type 0) (row : ℕ → CellTexts → X → B) → One Is
    → (n : ℕ) (made other : B) → IsRowOf requests Is row n made → IsRowOf requests Is row n other → made ≡ other
one_row requests Is row one n made other (asked, at, (t, x, has, is, e)) (asked', at', (u, y, has', is', f)) =
    let same : asked' ≡ asked = same_Some _ _ (sym at' ∙ at) in
    let texts : t ≡ u =
    same_texts requests.world asked.principal asked.action asked.resource t u has (subst (λ (a : AskedValue). HasAskedTexts requests.world a u) same has') in
    let entry : x ≡ y = one requests.world asked x y is (subst (λ (a : AskedValue). Is requests.world a y) same is') in
    e ∙ ap (λ k. row n k x) texts ∙ ap (row n u) entry ∙ sym f

one_text : {X B : Type 0} (requests : RequestsValue) (Is : WorldValue → AskedValue → X → Type 0) (row : ℕ → CellTexts → X → B) (whole : List B → List ℕ) → One Is
    → (text other : List ℕ) → IsText requests Is row whole text → IsText requests Is row whole other → text ≡ other
one_text requests Is row whole one text other (rows, h, e) (others, k, f) =
    e ∙ ap whole (one_entries (IsRowOf requests Is row) (one_row requests Is row one) 0 rows others (h.count ∙ sym k.count) h.each k.each) ∙ sym f

one_verdict : OneOwnVerdict → One IsVerdictOn
one_verdict one world asked x y h k = one world asked.principal asked.action asked.resource asked.own x y h k

one_decision : OneOwnDecision → One IsDecisionOn
one_decision one world asked x y h k = one world asked.principal asked.action asked.resource asked.own x y h k

pub one_report : OneOwnVerdict → OneOwnDecision → Laws.OneAskReport
one_report verdicts decisions Csv true requests text other h k = one_text requests IsDecisionOn brief_layout.line _ (one_decision decisions) text other h k
one_report verdicts decisions Csv false requests text other h k = one_text requests IsVerdictOn full_layout.line _ (one_verdict verdicts) text other h k
one_report verdicts decisions Json true requests text other h k = one_text requests IsDecisionOn brief_layout.object _ (one_decision decisions) text other h k
one_report verdicts decisions Json false requests text other h k = one_text requests IsVerdictOn full_layout.object _ (one_verdict verdicts) text other h k

-- ---- requests and cells

pub judges : NoKeysChangeNoVerdict → OneTriple → Laws.JudgesAsItsCell
judges keys triples world cell p a r verdict is =
    let resource = found world.resources r is.resource in
    let same = keys world p a r verdict (resource.0, resource.1, tt) in (
      λ h. (p, a, r, is, same.0 h),
      λ of.
          let (q, b, s, there, h) = of in
          let e = triples world cell q b s p a r there is in
          same.1 (subst (λ k. IsVerdictAt world p a k verdict) e.2 (subst (λ k. IsVerdictAt world p k s verdict) e.1 (subst (λ k. IsVerdictAt world k b s verdict) e.0 h))),
    )

pub decides : NoKeysChangeNoDecision → OneTriple → Laws.DecidesAsItsCell
decides keys triples world cell p a r decision is =
    let resource = found world.resources r is.resource in
    let same = keys world p a r decision (resource.0, resource.1, tt) in (
      λ h. (p, a, r, is, same.0 h),
      λ of.
          let (q, b, s, there, h) = of in
          let e = triples world cell q b s p a r there is in
          same.1 (subst (λ k. IsDecisionAt world p a k decision) e.2 (subst (λ k. IsDecisionAt world p k s decision) e.1 (subst (λ k. IsDecisionAt world k b s decision) e.0 h))),
    )

-- what is said of a cell is said of the request for it that gives no keys
abbrev AsItsCell : {X : Type 0} → (WorldValue → ℕ → X → Type 0) → (WorldValue → AskedValue → X → Type 0) → Type 0
AsItsCell {X} OfCell Is = (world : WorldValue) (cell p a r : ℕ) (x : X) → IsCell world cell p a r → OfCell world cell x → Is world (plain p a r) x

-- the rows of all cells are those of the requests for them
rows_of_cells : {X B : Type 0} (requests : RequestsValue) (OfCell : WorldValue → ℕ → X → Type 0) (Is : WorldValue → AskedValue → X → Type 0) (row : ℕ → CellTexts → X → B)
    (entries : List X) (rows : List B) → SomeTriple → AsItsCell OfCell Is → AsksAllCells requests → IsMatrix OfCell requests.world entries
    → AreRowsFrom requests.world row 0 entries rows → AreRows requests Is row rows
rows_of_cells requests OfCell Is row entries rows triples like all matrix are = record {
  count = are.count ∙ matrix.count ∙ sym all.count;
  each = λ n made at.
      let inside = slice_get_within rows n made at in
      let below : n < world_cells requests.world = omega (arith, inside, are.count, matrix.count) in
      let few : n < length entries = omega (arith, inside, are.count) in
      let (p, a, r, is) = triples requests.world n below in
      let texts = texts_there requests.world n p a r is in
      let entry = found entries n few in
      let number : n ≡ 0 + n = omega arith in
      let row_is = are.each n texts.0 entry.0 (subst (λ k. IsCellTexts requests.world k texts.0) number (p, a, r, is, texts.1)) entry.1 in
      let same : made ≡ row (0 + n) texts.0 entry.0 = same_Some _ _ (sym at ∙ row_is) in
      let said = like requests.world n p a r entry.0 is (subst (λ k. OfCell requests.world k entry.0) (sym number) (matrix.each n entry.0 entry.1)) in
      (plain p a r, subst (λ k. slice_get requests.asked k ≡ Some (plain p a r)) number (all.each n p a r is), (texts.0, entry.0, texts.1, said, same));
}

pub all_cells : SomeTriple → Laws.JudgesAsItsCell → Laws.DecidesAsItsCell → Laws.AllCellsGiveTheMatrix
all_cells triples judged decided Csv true requests text all (decisions, matrix, (lines, are, e)) = (
  lines,
  rows_of_cells requests IsDecisionOf IsDecisionOn brief_layout.line decisions lines triples (λ world cell p a r x is h. (decided world cell p a r x is).1 h) all matrix are,
  e,
)
all_cells triples judged decided Csv false requests text all (verdicts, matrix, (lines, are, e)) = (
  lines,
  rows_of_cells requests IsVerdictOf IsVerdictOn full_layout.line verdicts lines triples (λ world cell p a r x is h. (judged world cell p a r x is).1 h) all matrix are,
  e,
)
all_cells triples judged decided Json true requests text all (decisions, matrix, (objects, are, e)) = (
  objects,
  rows_of_cells requests IsDecisionOf IsDecisionOn brief_layout.object decisions objects triples (λ world cell p a r x is h. (decided world cell p a r x is).1 h) all matrix are,
  e,
)
all_cells triples judged decided Json false requests text all (verdicts, matrix, (objects, are, e)) = (
  objects,
  rows_of_cells requests IsVerdictOf IsVerdictOn full_layout.object verdicts objects triples (λ world cell p a r x is h. (judged world cell p a r x is).1 h) all matrix are,
  e,
)
