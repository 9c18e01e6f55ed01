-- Rows one behind the other, and what was chosen for each of many principals.
use Rattle.std.proofs.Common.{◌≡◌, ◌↔◌, inl, inr, ℕ, suc, ◌+◌, ◌<◌, Bool, true, false, IsTrue, MatchBool, ◌||◌, List, [], ◌∷◌, ◌++◌, All, Any, length, map, refl, sym, ap, ◌∙◌, subst, arith, append_assoc, length-append}
use Rattle.std.proofs.lemmas.List.{length-map}
use Rattle.std.proofs.lemmas.List.Elements.{All-cons, All-nil}
use Rattle.std.specs.List.{AllZip, items_where_true, list_any, slice_get}
use Rattle.std.specs.List.Retain.{IsFiltered, ReturnsInTurn}
use Rattle.iam_decision.specs.Matched.{Selects}
use Rattle.iam_every.specs.Code.Texts.{text_if}
use Rattle.iam_every.specs.Every.{EveryValue}
use Rattle.iam_layers.specs.Cell.{IsPrincipal, principal_text}
use Rattle.iam_open.specs.declared.asked.Word.{Word}
use Rattle.iam_row.proofs.Rows.{found}
use Rattle.iam_row.specs.declared.quoted.Format.{Format}
use Rattle.iam_open_every.specs.Code.Texts.{IsChosen, all_rows, named_in, named_rows, rows_in}
use Rattle.iam_open_every.specs.Report.{AreWanted, IsWanted, NamedRow, OfRows, row_text, rows_text}
use Rattle.iam_open_every.specs.Row.{RowValue, row_of}
use Rattle.iam_open_every.specs.Rows.{AreRows}
use Rattle.iam_open_every.specs.declared.crew.Chosen.{Chosen}
use Rattle.iam_open_every.specs.declared.rows.Row.{Row}
use Rattle.iam_world.specs.World.{WorldValue}

-- ---- texts

-- rows, and others behind them
rows_both : (format : Format) (brief : Bool) (n : ℕ) (xs ys : List NamedRow)
    → rows_text format brief n (xs ++ ys) ≡ rows_text format brief n xs ++ rows_text format brief (n + length xs) ys
rows_both format brief n [] ys = let same : n ≡ n + 0 = omega arith in ap (λ k. rows_text format brief k ys) same
rows_both format brief n (x ∷ xs) ys =
    let row = row_text format brief n x in
    let same : n + 1 + length xs ≡ n + length (x ∷ xs) = omega arith in
    ap (λ t. row ++ t) (rows_both format brief (n + 1) xs ys ∙ ap (λ k. rows_text format brief (n + 1) xs ++ rows_text format brief k ys) same)
    ∙ sym (append_assoc row (rows_text format brief (n + 1) xs) (rows_text format brief (n + length (x ∷ xs)) ys))

-- how many rows there are
length_named : (name : List ℕ) (rows : List Row) → length (named_rows name rows) ≡ length rows
length_named name rows = simp length-map

pub count_rows : (world : WorldValue) (all : List Chosen) → length (all_rows world all) ≡ length (rows_in all)
count_rows world [] = refl
count_rows world (x ∷ all) =
    let here = length_named (text_if (slice_get world.principals x.principal)) x.rows in
    omega (arith, here, count_rows world all, length-append (named_in world x) (all_rows world all), length-append x.rows (rows_in all))

-- the rows of one more principal
pub texts_more : (format : Format) (brief : Bool) (world : WorldValue) (chosen : Chosen) (rest : List Chosen) (name : List ℕ) (first : ℕ) (whole before text : List ℕ)
    → whole ≡ before ++ rows_text format brief first (all_rows world (chosen ∷ rest)) → IsPrincipal world chosen.principal (λ principal. name ≡ principal_text principal)
    → text ≡ rows_text format brief first (named_rows name chosen.rows)
    → whole ≡ (before ++ text) ++ rows_text format brief (first + length chosen.rows) (all_rows world rest)
texts_more format brief world chosen rest name first whole before text so_far (principal, at, told) one =
    let last : ℕ → List ℕ = λ k. rows_text format brief (first + k) (all_rows world rest) in
    let here : rows_text format brief first (named_in world chosen) ≡ text =
    ap (λ n. rows_text format brief first (named_rows n chosen.rows)) (ap text_if at ∙ sym told) ∙ sym one in
    so_far
    ∙ ap (λ t. before ++ t)
    (rows_both format brief first (named_in world chosen) (all_rows world rest) ∙ ap (λ t. t ++ last (length (named_in world chosen))) here
    ∙ ap (λ k. text ++ last k) (length_named (text_if (slice_get world.principals chosen.principal)) chosen.rows))
    ∙ sym (append_assoc before text (last (length chosen.rows)))

-- ---- rows that are asked for

-- those at which a test said so, where it says it of those of which P holds
module _ {F : Type 0} (R : F → Row → Bool → F → Type 0) (P : RowValue → Type 0) (f : F) (says : (row : Row) (b : Bool) (g : F) → R f row b g → (IsTrue b ↔ P (row_of row)) × (g ≡ f)) where
  selected : (bs : List Bool) (rows : List Row) (q : F) → length bs ≡ length rows → ReturnsInTurn R f bs rows q → Selects P (map row_of rows) (map row_of (items_where_true bs rows))
  selected [] [] q e told = refl
  selected [] (row ∷ rows) q e told = absurd (omega (arith, e))
  selected (b ∷ bs) [] q e told = absurd told
  selected (true ∷ bs) (row ∷ rows) q e told =
      let (means, same) = says row true told.0 told.1 in
      inl (means.0 refl, (map row_of (items_where_true bs rows), refl, selected bs rows q (omega (arith, e)) (subst (λ (g : F). ReturnsInTurn R g bs rows q) same told.2)))
  selected (false ∷ bs) (row ∷ rows) q e told =
      let (means, same) = says row false told.0 told.1 in
      inr (λ p. let on = means.1 p in let wrong : ⊥ = cc in wrong, selected bs rows q (omega (arith, e)) (subst (λ (g : F). ReturnsInTurn R g bs rows q) same told.2))

  pub selected_kept : (rows kept : List Row) → IsFiltered R f rows kept → Selects P (map row_of rows) (map row_of kept)
  selected_kept rows kept is = subst (λ (z : List Row). Selects P (map row_of rows) (map row_of z)) (sym is.4) (selected is.0 rows is.1 is.2 is.3)

-- what was chosen is what is asked for
pub wanted_one : (brief : Bool) (every : EveryValue) (words : List Word) (p : ℕ) (rows : List RowValue) (kept : List Row) → p < length every.world.principals
    → AreRows brief every p rows → Selects (IsWanted words) rows (map row_of kept)
    → AreWanted brief every words p (named_rows (text_if (slice_get every.world.principals p)) kept)
wanted_one brief every words p rows kept inside are wanted =
    let (principal, at) = found every.world.principals p inside in
    (rows, map row_of kept, are, wanted, (principal, at, ap (λ o. named_rows (text_if o) kept) at))

-- what is told of the rows of a principal
pub told_of : (brief : Bool) (every : EveryValue) (p : ℕ) (rows : List RowValue) (P Q : List RowValue → Type 0) (told : Bool) → AreRows brief every p rows
    → MatchBool told (P rows) (Q rows) → MatchBool told (OfRows brief every P p) (OfRows brief every Q p)
told_of brief every p rows P Q true are h = (rows, are, h)
told_of brief every p rows P Q false are h = (rows, are, h)

-- ---- principals

-- what holds of none, and of one more before those of which it holds
along : {B : Type 0} (R : ℕ → B → Type 0) (P : List ℕ → List B → Type 0) → P [] [] → ((x : ℕ) (y : B) (xs : List ℕ) (ys : List B) → R x y → P xs ys → P (x ∷ xs) (y ∷ ys))
    → (xs : List ℕ) (ys : List B) → AllZip R xs ys → P xs ys
along R P nil more [] [] h = nil
along R P nil more [] (y ∷ ys) h = absurd h
along R P nil more (x ∷ xs) [] h = absurd h
along R P nil more (x ∷ xs) (y ∷ ys) h = more x y xs ys h.0 (along R P nil more xs ys h.1)

tells_more : {X : Type 0} (T U : X → Type 0) (x : X) (xs : List X) (here rest : Bool) → MatchBool here (T x) (U x) → MatchBool rest (Any T xs) (All U xs)
    → MatchBool (here || rest) (Any T (x ∷ xs)) (All U (x ∷ xs))
tells_more T U x xs true rest h k = (0, x, omega arith, refl, h)
tells_more T U x xs false true h (i, y, inside, at, is) = (suc i, y, omega (arith, inside), at, is)
tells_more T U x xs false false h k = All-cons U x xs h k

module _ (brief : Bool) (every : EveryValue) (words : List Word) (principals : List ℕ) (all : List Chosen) (are : AllZip (IsChosen brief every words) principals all) where
  pub all_known : All (λ chosen. chosen.principal < length every.world.principals) all
  all_known =
      let K : Chosen → Type 0 = λ chosen. chosen.principal < length every.world.principals in
      along (IsChosen brief every words) (λ _ chosen. All K chosen) (All-nil K) (λ p x ps xs is rest. All-cons K x xs is.known rest) principals all are

  pub all_wanted : AllZip (AreWanted brief every words) principals (map (named_in every.world) all)
  all_wanted =
      along (IsChosen brief every words) (λ ps chosen. AllZip (AreWanted brief every words) ps (map (named_in every.world) chosen)) tt
      (λ p x ps xs is rest. (is.wanted, rest)) principals all are

  -- what is told of all, where it is told of each
  pub tells : (T U : ℕ → Type 0) (said : Chosen → Bool) → ((p : ℕ) (chosen : Chosen) → IsChosen brief every words p chosen → MatchBool (said chosen) (T p) (U p))
      → MatchBool (list_any said all) (Any T principals) (All U principals)
  tells T U said says =
      along (IsChosen brief every words) (λ ps chosen. MatchBool (list_any said chosen) (Any T ps) (All U ps)) (All-nil U)
      (λ p x ps xs is rest. tells_more T U p ps (said x) (list_any said xs) (says p x is) rest) principals all are
