-- Where a selection says nothing, all cells are listed.
use Rattle.std.proofs.Common.{◌≡◌, inl, inr, ℕ, zero, suc, ◌+◌, ◌<◌, ◌≤◌, true, false, List, [], ◌∷◌, length, Option, None, Some, refl, sym, subst, arith, ⊎_elim}
use Rattle.std.specs.List.{AllZip}
use Rattle.iam_layers.specs.Cell.{IsDecisionOf, IsVerdictOf}
use Rattle.iam_layers.specs.Laws.{SomeTriple}
use Rattle.iam_world.specs.World.{WorldValue, world_cells}
use Rattle.iam_row.specs.Report.{AreRowsFrom, CellTexts, brief_layout, full_layout}
use Rattle.iam_row.specs.declared.quoted.Format.TheVariants.{Csv, Json}
use Rattle.iam_row.proofs.Rows.{both_rows, no_rows, one_row, texts_there}
use Rattle.iam_matrix.specs.Matrix.{AreEntriesFrom, IsFirstAllowed}
use Rattle.iam_selection.specs.Laws
use Rattle.iam_selection.specs.Laws.{nothing}
use Rattle.iam_selection.specs.Report.{ArePicked, IsRowOf}
use Rattle.iam_selection.specs.Selection.{IsFirstSelected, IsPassed, IsSelected}

-- each cell is selected
all_selected : SomeTriple → (world : WorldValue) (cell : ℕ) → cell < world_cells world → IsSelected nothing world cell
all_selected triples world cell below =
    let (p, a, r, is) = triples world cell below in
    let texts = texts_there world cell p a r is in
    (texts.0, (p, a, r, is, texts.1), record { principal = inl refl; action = inl refl; resource = inl refl })

-- and none is passed over
none_passed : SomeTriple → (world : WorldValue) (cell : ℕ) → cell < world_cells world → ¬ IsPassed nothing world cell
none_passed triples world cell below passed = elim passed [
  | inl not ↦ not (all_selected triples world cell below)
  | inr (decision, is, unwanted) ↦ unwanted (inl refl)
]

-- one entry before others
first_entry : {X : Type 0} (Is : ℕ → X → Type 0) (from : ℕ) (x : X) (xs : List X) → Is from x → AreEntriesFrom Is (from + 1) xs → AreEntriesFrom Is from (x ∷ xs)
first_entry Is from x xs is are zero y at =
    let same : x ≡ y = cc in
    let here : from ≡ from + 0 = omega arith in
    subst (λ k. Is k y) here (subst (Is from) same is)
first_entry Is from x xs is are (suc i) y at = let here : from + 1 + i ≡ from + suc i = omega arith in subst (λ k. Is k y) here (are i y at)

no_entry : {X : Type 0} (Is : ℕ → X → Type 0) (from : ℕ) → AreEntriesFrom Is from []
no_entry Is from i x at = absurd (let wrong : ⊥ = cc in wrong)

-- so many entries from a cell on, and a row for each
record Lists {X B : Type 0} (world : WorldValue) (Is : ℕ → X → Type 0) (row : ℕ → CellTexts → X → B) (from n : ℕ) (rows : List B) : Type 0 where
  entries : List X
  count : length entries ≡ n
  each : AreEntriesFrom Is from entries
  are : AreRowsFrom world row from entries rows

-- no rows of no cells, and one row before others
none_listed : {X B : Type 0} (world : WorldValue) (Is : ℕ → X → Type 0) (row : ℕ → CellTexts → X → B) (from : ℕ) (rows : List B) → AllZip (IsRowOf world Is row) [] rows
    → Lists world Is row from 0 rows
none_listed world Is row from [] z = record { entries = []; count = refl; each = no_entry Is from; are = no_rows world row from }
none_listed world Is row from (r ∷ rows) z = absurd z

one_listed : {X B : Type 0} (world : WorldValue) (Is : ℕ → X → Type 0) (row : ℕ → CellTexts → X → B) (from n : ℕ) (rest : List ℕ) (rows : List B)
    → AllZip (IsRowOf world Is row) (from ∷ rest) rows → ((others : List B) → AllZip (IsRowOf world Is row) rest others → Lists world Is row (from + 1) n others)
    → Lists world Is row from (suc n) rows
one_listed world Is row from n rest [] z more = absurd z
one_listed world Is row from n rest (r ∷ rows) ((texts, entry, has, holds, e), z) more =
    let others = more rows z in
    let one = one_row world row from texts entry has in
    record {
      entries = entry ∷ others.entries;
      count = omega (arith, others.count);
      each = first_entry Is from entry others.entries holds others.each;
      are =
          both_rows world row from (entry ∷ []) others.entries (r ∷ []) rows (subst (λ made. AreRowsFrom world row from (entry ∷ []) (made ∷ [])) (sym e) one)
          others.are;
    }

lists_all : {X B : Type 0} (P Q : ℕ → Type 0) (world : WorldValue) (Is : ℕ → X → Type 0) (row : ℕ → CellTexts → X → B) (most from n : ℕ) → from + n ≤ most
    → ((cell : ℕ) → cell < most → ¬ Q cell) → (cells : List ℕ) (rows : List B) → ArePicked P Q from n cells → AllZip (IsRowOf world Is row) cells rows
    → Lists world Is row from n rows
lists_all P Q world Is row most from zero within never cells rows none zip =
    none_listed world Is row from rows (subst (λ cs. AllZip (IsRowOf world Is row) cs rows) none zip)
lists_all {X} {B} P Q world Is row most from (suc n) within never cells rows (rest, more, is) zip =
    let later : (others : List B) → AllZip (IsRowOf world Is row) rest others → Lists world Is row (from + 1) n others = λ others z. lists_all P Q world Is row most (from + 1) n (omega (arith, within)) never rest others more z in
    ⊎_elim (λ here. one_listed world Is row from n rest rows (subst (λ cs. AllZip (IsRowOf world Is row) cs rows) here.1 zip) later)
    (λ passed. absurd (never from (omega (arith, within)) passed.0)) is

pub selects_all : SomeTriple → Laws.NothingSelectsAll
selects_all triples Csv true world text (cells, rows, picked, zip, e) =
    let all = lists_all _ _ world (IsDecisionOf world) brief_layout.line (world_cells world) 0 (world_cells world) (omega arith) (none_passed triples world) cells rows picked zip in
    (all.entries, record { count = all.count; each = all.each }, (rows, all.are, e))
selects_all triples Csv false world text (cells, rows, picked, zip, e) =
    let all = lists_all _ _ world (IsVerdictOf world) full_layout.line (world_cells world) 0 (world_cells world) (omega arith) (none_passed triples world) cells rows picked zip in
    (all.entries, record { count = all.count; each = all.each }, (rows, all.are, e))
selects_all triples Json true world text (cells, rows, picked, zip, e) =
    let all = lists_all _ _ world (IsDecisionOf world) brief_layout.object (world_cells world) 0 (world_cells world) (omega arith) (none_passed triples world) cells rows picked zip in
    (all.entries, record { count = all.count; each = all.each }, (rows, all.are, e))
selects_all triples Json false world text (cells, rows, picked, zip, e) =
    let all = lists_all _ _ world (IsVerdictOf world) full_layout.object (world_cells world) 0 (world_cells world) (omega arith) (none_passed triples world) cells rows picked zip in
    (all.entries, record { count = all.count; each = all.each }, (rows, all.are, e))

first_of_all : SomeTriple → (world : WorldValue) (first : Option ℕ) → IsFirstSelected nothing world first → IsFirstAllowed world first
first_of_all triples world None none = λ cell below. none cell below (all_selected triples world cell below)
first_of_all triples world (Some cell) (below, selected, allowed, lower) = (
  below,
  allowed,
  λ other less. lower other less (all_selected triples world other (omega (arith, less, below))),
)

pub selects_first : SomeTriple → Laws.NothingSelectsFirst
selects_first triples world text (first, is, text_is) = (first, first_of_all triples world first is, text_is)
