-- Rows one behind the other, and the rows of each of many principals.
use Rattle.std.proofs.Common.{◌≡◌, ◌↔◌, inl, inr, ℕ, IsTrue, suc, ◌+◌, ◌<◌, ◌≤◌, Bool, true, false, List, [], ◌∷◌, ◌++◌, Some, Global, String, drop, get_or, length, map, take, string_bytes, refl, sym, ap, ◌∙◌, subst, arith, append_assoc, append-nil, length-append}
use Rattle.std.proofs.lemmas.Bool.{cases_lt}
use Rattle.std.proofs.lemmas.Grind.{flat_map-append}
use Rattle.std.proofs.lemmas.List.{length-map, length-take-le, map-append}
use Rattle.std.proofs.lemmas.List.Elements.{All-cons, All-head, All-nil, All-tail}
use Rattle.std.proofs.lemmas.List.Folds.{flat_map-map}
use Rattle.std.specs.List.{All, AllZip, flat_map, items_where_true, slice_get}
use Rattle.std.specs.List.Retain.{IsFiltered, ReturnsInTurn}
use Rattle.iam_decision.specs.Matched.{Selects}
use Rattle.iam_decision.specs.declared.verdict.Decision.{Decision}
use Rattle.iam_layers.specs.Cell.{IsPrincipal, principal_text}
use Rattle.iam_world.specs.World.{WorldValue}
use Rattle.iam_report.proofs.Buffered.{flat_map_at}
use Rattle.iam_row.proofs.Rows.{found}
use Rattle.iam_row.specs.declared.quoted.Format.{Format}
use Rattle.iam_row.specs.Piece.{closing_text, opening_text}
use Rattle.iam_every.specs.Every.{EveryValue, RowValue, row_of}
use Rattle.iam_every.specs.Report.{AreWanted, IsEveryReport, IsTooLong, NamedRow, row_text, rows_text, texts_of}
use Rattle.iam_every.specs.Code.Texts.{IsChosen, named_in, named_rows, text_if}
use Rattle.iam_every.specs.declared.crew.Chosen.{Chosen}
use Rattle.iam_every.specs.declared.rows.Row.{Row}
use Rattle.iam_every.proofs.WalkLemmas.{taken_more}

-- ---- texts

-- rows, and others behind them
rows_both : (format : Format) (brief : Bool) (n : ℕ) (xs ys : List NamedRow)
    → rows_text format brief n (xs ++ ys) ≡ rows_text format brief n xs ++ rows_text format brief (n + length xs) ys
rows_both format brief n [] ys = let same : n ≡ n + 0 = omega arith in ap (λ k. rows_text format brief k ys) same
rows_both format brief n (x ∷ xs) ys =
    let row = row_text format brief n (texts_of x) x.row.verdict in
    let same : n + 1 + length xs ≡ n + length (x ∷ xs) = omega arith in
    ap (λ t. row ++ t) (rows_both format brief (n + 1) xs ys ∙ ap (λ k. rows_text format brief (n + 1) xs ++ rows_text format brief k ys) same)
    ∙ sym (append_assoc row (rows_text format brief (n + 1) xs) (rows_text format brief (n + length (x ∷ xs)) ys))

abbrev pub named : List ℕ → Row → NamedRow
named principal row = record { principal = principal; row = row_of row }

-- one more row of a principal
pub row_more : (format : Format) (brief : Bool) (first : ℕ) (principal : List ℕ) (rows : List Row) (i : ℕ) (row : Row) (cell : ℕ) (before next after : List ℕ)
    → i < length rows → row ≡ get_or rows i row → cell ≡ first + i → before ≡ rows_text format brief first (named_rows principal (take i rows))
    → next ≡ row_text format brief cell (texts_of (named principal row)) (row_of row).verdict → after ≡ before ++ next
    → after ≡ rows_text format brief first (named_rows principal (take (i + 1) rows))
row_more format brief first principal rows i row cell before next after inside is number so_far one more =
    let name : Row → NamedRow = named principal in
    let done = named_rows principal (take i rows) in
    let count : first + length done ≡ cell =
    ap (λ k. first + k) (length-map (take i rows) name ∙ length-take-le i rows (omega (arith, inside))) ∙ sym number in
    let rest : rows_text format brief (first + length done) (name row ∷ []) ≡ next =
    ap (λ k. rows_text format brief k (name row ∷ [])) count ∙ append-nil _ ∙ sym one in
    let parts : named_rows principal (take (i + 1) rows) ≡ done ++ (name row ∷ []) =
    ap (map name) (taken_more rows i row inside is) ∙ map-append name (take i rows) (row ∷ []) in
    more ∙ ap (λ t. t ++ next) so_far ∙ ap (λ t. rows_text format brief first done ++ t) (sym rest)
    ∙ sym (rows_both format brief first done (name row ∷ [])) ∙ ap (rows_text format brief first) (sym parts)

-- how many rows there are
abbrev pub rows_in : List Chosen → List Row
rows_in all = flat_map (λ chosen. chosen.rows) all

pub count_named : (world : WorldValue) (all : List Chosen) → length (flat_map (named_in world) all) ≡ length (rows_in all)
count_named world [] = refl
count_named world (x ∷ all) =
    let here : length (named_in world x) ≡ length x.rows = length-map x.rows (named (text_if (slice_get world.principals x.principal))) in
    let rest = count_named world all in
    omega (arith, here, rest, length-append (named_in world x) (flat_map (named_in world) all), length-append x.rows (rows_in all))

pub count_more : (done : List Chosen) (chosen : Chosen) → length (rows_in (done ++ (chosen ∷ []))) ≡ length (rows_in done) + length chosen.rows
count_more done chosen =
    ap (λ (t : List Row). length t) (flat_map-append (λ (x : Chosen). x.rows) done (chosen ∷ []) ∙ ap (λ (t : List Row). rows_in done ++ t) (append-nil chosen.rows))
    ∙ length-append (rows_in done) chosen.rows

pub count_within : (all : List Chosen) (i : ℕ) (chosen : Chosen) → i < length all → chosen ≡ get_or all i chosen
    → length (rows_in (take i all)) + length chosen.rows ≤ length (rows_in all)
count_within all i chosen inside is =
    let parts = flat_map_at (λ (x : Chosen). x.rows) all i chosen inside ∙ ap (λ (x : Chosen). rows_in (take i all) ++ (x.rows ++ rows_in (drop (i + 1) all))) (sym is) in
    omega (arith, ap (λ (t : List Row). length t) parts, length-append (rows_in (take i all)) (chosen.rows ++ rows_in (drop (i + 1) all)), length-append chosen.rows (rows_in (drop (i + 1) all)))

-- the rows of one more principal
pub texts_more : (format : Format) (brief : Bool) (world : WorldValue) (done : List Chosen) (chosen : Chosen) (name : List ℕ) (first : ℕ) (texts more : List (String Global)) (text : String Global)
    → first ≡ length (rows_in done) → IsPrincipal world chosen.principal (λ principal. name ≡ principal_text principal)
    → flat_map string_bytes texts ≡ rows_text format brief 0 (flat_map (named_in world) done)
    → string_bytes text ≡ rows_text format brief first (named_rows name chosen.rows) → more ≡ texts ++ (text ∷ [])
    → flat_map string_bytes more ≡ rows_text format brief 0 (flat_map (named_in world) (done ++ (chosen ∷ [])))
texts_more format brief world done chosen name first texts more text number (principal, at, told) so_far one adds =
    let before = flat_map (named_in world) done in
    let named_so : name ≡ text_if (slice_get world.principals chosen.principal) = told ∙ ap text_if (sym at) in
    let count : first ≡ 0 + length before = omega (arith, number, count_named world done) in
    let next : string_bytes text ++ [] ≡ rows_text format brief (0 + length before) (named_in world chosen) =
    append-nil (string_bytes text) ∙ one ∙ ap (λ n. rows_text format brief first (named_rows n chosen.rows)) named_so
    ∙ ap (λ k. rows_text format brief k (named_in world chosen)) count in
    let parts : flat_map (named_in world) (done ++ (chosen ∷ [])) ≡ before ++ named_in world chosen =
    flat_map-append (named_in world) done (chosen ∷ []) ∙ ap (λ (t : List NamedRow). before ++ t) (append-nil (named_in world chosen)) in
    ap (flat_map string_bytes) adds ∙ flat_map-append string_bytes texts (text ∷ []) ∙ ap (λ t. t ++ (string_bytes text ++ [])) so_far
    ∙ ap (λ t. rows_text format brief 0 before ++ t) next ∙ sym (rows_both format brief 0 before (named_in world chosen)) ∙ ap (rows_text format brief 0) (sym parts)

-- ---- rows that are asked for

-- those at which a test said so, where it says it of those of which P holds
module _ {F : Type 0} (R : F → Row → Bool → F → Type 0) (P : RowValue → Type 0) (f : F) (says : (row : Row) (b : Bool) (g : F) → R f row b g → (IsTrue b ↔ P (row_of row)) × (g ≡ f)) where
  selected : (bs : List Bool) (rows : List Row) (q : F) → length bs ≡ length rows → ReturnsInTurn R f bs rows q → Selects P (map row_of rows) (map row_of (items_where_true bs rows))
  selected [] [] q e told = refl
  selected [] (row ∷ rows) q e told = absurd (omega (arith, e))
  selected (b ∷ bs) [] q e told = absurd told
  selected (true ∷ bs) (row ∷ rows) q e told =
      let one = says row true told.0 told.1 in
      let T : F → Type 0 = λ g. ReturnsInTurn R g bs rows q in
      inl (one.0.0 refl, (map row_of (items_where_true bs rows), refl, selected bs rows q (omega (arith, e)) (subst T one.1 told.2)))
  selected (false ∷ bs) (row ∷ rows) q e told =
      let one = says row false told.0 told.1 in
      let T : F → Type 0 = λ g. ReturnsInTurn R g bs rows q in
      inr (λ p. let yes = one.0.1 p in let wrong : ⊥ = cc in wrong, selected bs rows q (omega (arith, e)) (subst T one.1 told.2))

  pub selected_kept : (rows kept : List Row) → IsFiltered R f rows kept → Selects P (map row_of rows) (map row_of kept)
  selected_kept rows kept is =
      let S : List Row → Type 0 = λ z. Selects P (map row_of rows) (map row_of z) in
      subst S (sym is.4) (selected is.0 rows is.1 is.2 is.3)

-- ---- principals

-- what holds at each place
pub zipped : {B : Type 0} (R : ℕ → B → Type 0) (xs : List ℕ) (ys : List B) → length ys ≡ length xs
    → ((i : ℕ) (y : B) → slice_get ys i ≡ Some y → R (get_or xs i 0) y) → AllZip R xs ys
zipped R [] [] e each = tt
zipped R [] (y ∷ ys) e each = omega (arith, e)
zipped R (x ∷ xs) [] e each = omega (arith, e)
zipped R (x ∷ xs) (y ∷ ys) e each = (each 0 y refl, zipped R xs ys (omega (arith, e)) (λ i z at. each (suc i) z at))

zip_append : {A B : Type 0} (R : A → B → Type 0) (xs us : List A) (ys vs : List B) → AllZip R xs ys → AllZip R us vs → AllZip R (xs ++ us) (ys ++ vs)
zip_append R [] us [] vs h k = k
zip_append R [] us (y ∷ ys) vs h k = absurd h
zip_append R (x ∷ xs) us [] vs h k = absurd h
zip_append R (x ∷ xs) us (y ∷ ys) vs h k = (h.0, zip_append R xs us ys vs h.1 k)

-- those of some principals, and of others behind them
pub zip_more : {A B : Type 0} (R : A → B → Type 0) (xs us : List A) (ys vs all : List B) → AllZip R xs ys → AllZip R us vs → all ≡ ys ++ vs → AllZip R (xs ++ us) all
zip_more R xs us ys vs all h k e = subst (AllZip R (xs ++ us)) (sym e) (zip_append R xs us ys vs h k)

abbrev pub AreKnown : EveryValue → List ℕ → Type 0
AreKnown every principals = All (λ p. p < length every.world.principals) principals

-- the principals of what was chosen are there
pub known_chosen : (every : EveryValue) (decisions : List Decision) (principals : List ℕ) (all : List Chosen) → AreKnown every principals
    → AllZip (IsChosen every decisions) principals all → All (λ chosen. chosen.principal < length every.world.principals) all
known_chosen every decisions [] [] known are = All-nil _
known_chosen every decisions [] (x ∷ all) known are = absurd are
known_chosen every decisions (p ∷ principals) [] known are = absurd are
known_chosen every decisions (p ∷ principals) (x ∷ all) known are =
    let N : ℕ → Type 0 = λ k. k < length every.world.principals in
    let M : Chosen → Type 0 = λ chosen. chosen.principal < length every.world.principals in
    All-cons M x all (subst N (sym are.0.principal) (All-head N p principals known))
    (known_chosen every decisions principals all (All-tail N p principals known) are.1)

-- rows get the text of their principal
named_again : (principal : List ℕ) (rows : List Row) → named_rows principal rows ≡ map (λ row. record { principal = principal; row = row }) (map row_of rows)
named_again principal [] = refl
named_again principal (row ∷ rows) = ap (λ rest. named principal row ∷ rest) (named_again principal rows)

-- what was chosen is what is asked for
wanted_one : (every : EveryValue) (decisions : List Decision) (p : ℕ) (chosen : Chosen) → p < length every.world.principals
    → IsChosen every decisions p chosen → AreWanted every decisions p (named_in every.world chosen)
wanted_one every decisions p chosen inside is =
    let (principal, at) = found every.world.principals p inside in
    let here : slice_get every.world.principals chosen.principal ≡ Some principal = ap (slice_get every.world.principals) is.principal ∙ at in
    let same : named_in every.world chosen ≡ map (λ row. record { principal = principal_text principal; row = row }) (map row_of chosen.rows) =
    ap (λ o. named_rows (text_if o) chosen.rows) here ∙ named_again (principal_text principal) chosen.rows in
    (is.rows, map row_of chosen.rows, is.are, is.wanted, (principal, at, same))

wanted_all : (every : EveryValue) (decisions : List Decision) (principals : List ℕ) (all : List Chosen) → AreKnown every principals
    → AllZip (IsChosen every decisions) principals all → AllZip (AreWanted every decisions) principals (map (named_in every.world) all)
wanted_all every decisions [] [] known are = tt
wanted_all every decisions [] (x ∷ all) known are = absurd are
wanted_all every decisions (p ∷ principals) [] known are = absurd are
wanted_all every decisions (p ∷ principals) (x ∷ all) known are =
    let N : ℕ → Type 0 = λ k. k < length every.world.principals in
    (wanted_one every decisions p x (All-head N p principals known) are.0, wanted_all every decisions principals all (All-tail N p principals known) are.1)

-- the lists of all are joined
joined_named : (world : WorldValue) (all : List Chosen) → flat_map (λ (listed : List NamedRow). listed) (map (named_in world) all) ≡ flat_map (named_in world) all
joined_named world all = flat_map-map (λ (listed : List NamedRow). listed) (named_in world) all

count_joined : (world : WorldValue) (all : List Chosen) → length (flat_map (λ (listed : List NamedRow). listed) (map (named_in world) all)) ≡ length (rows_in all)
count_joined world all = ap (λ (l : List NamedRow). length l) (joined_named world all) ∙ count_named world all

-- there are more rows than there may be
pub not_few : (n : ℕ) (b : Bool) → b ≡ false → (n ≤ 16777216 → IsTrue b) → 16777216 < n
not_few n b untrue says = elim (cases_lt 16777216 n) [
  | inl many ↦ many
  | inr few ↦ let yes = says few in let wrong : ⊥ = cc in absurd wrong
]

pub reported : (format : Format) (brief : Bool) (every : EveryValue) (principals : List ℕ) (decisions : List Decision) (all : List Chosen) (rows text : List ℕ)
    → AreKnown every principals → AllZip (IsChosen every decisions) principals all → length (rows_in all) ≤ 16777216
    → rows ≡ rows_text format brief 0 (flat_map (named_in every.world) all) → text ≡ opening_text format brief ++ (rows ++ closing_text format)
    → IsEveryReport format brief every principals decisions text
reported format brief every principals decisions all rows text known are few made e = record {
  lists = map (named_in every.world) all;
  are = wanted_all every decisions principals all known are;
  few = omega (arith, few, count_joined every.world all);
  is =
      e ∙ ap (λ t. opening_text format brief ++ (t ++ closing_text format)) (made ∙ ap (rows_text format brief 0) (sym (joined_named every.world all)));
}

pub too_long : (every : EveryValue) (principals : List ℕ) (decisions : List Decision) (all : List Chosen)
    → AreKnown every principals → AllZip (IsChosen every decisions) principals all → 16777216 < length (rows_in all) → IsTooLong every principals decisions
too_long every principals decisions all known are many =
    (map (named_in every.world) all, wanted_all every decisions principals all known are, omega (arith, many, count_joined every.world all))
