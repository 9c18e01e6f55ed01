-- Rows of cells, one behind the other.
use Rattle.std.proofs.Common.{◌≡◌, ℕ, suc, zero, ◌+◌, ◌-◌, ◌*◌, ◌/◌, ◌<◌, List, [], ◌∷◌, ◌++◌, length, Some, refl, sym, ap, ◌∙◌, subst, ⊎_elim, arith, append_assoc, append-nil, length-append}
use Rattle.std.specs.List.{concat, slice_get}
use Rattle.std.proofs.lemmas.Bool.{cases_lt}
use Rattle.std.proofs.lemmas.List.Folds.{concat-append}
use Rattle.std.proofs.Math.Nat.{mul-add-div_right, div-eq_of_lt}
use Rattle.iam_world.specs.World.{ResourceValue, WorldValue}
use Rattle.iam_layers.specs.Cell.{IsCell, principal_text}
use Rattle.iam_row.specs.Report.{AreRowsFrom, CellTexts, HasTexts, IsCellTexts}

-- a place in rows of n places has one row and one number there
same_place : (n i j k l : ℕ) → j < n → l < n → i * n + j ≡ k * n + l → (i ≡ k) × (j ≡ l)
same_place n i j k l here there e =
    let some : 0 < n = omega arith in
    let at : (i * n + j) / n ≡ i = mul-add-div_right some i j ∙ ap (λ m. i + m) (div-eq_of_lt here) ∙ (omega arith) in
    let other : (k * n + l) / n ≡ k = mul-add-div_right some k l ∙ ap (λ m. k + m) (div-eq_of_lt there) ∙ (omega arith) in
    let row : i ≡ k = sym at ∙ ap (λ m. m / n) e ∙ other in
    let rows : i * n ≡ k * n = ap (λ m. m * n) row in (row, omega arith)

-- a cell has one principal, action and resource
one_triple : (world : WorldValue) (cell p a r q b s : ℕ) → IsCell world cell p a r → IsCell world cell q b s → (p ≡ q) × (a ≡ b) × (r ≡ s)
one_triple world cell p a r q b s here there =
    let outer = same_place (length world.resources) (p * length world.actions + a) r (q * length world.actions + b) s here.resource there.resource (sym here.number ∙ there.number) in
    let inner = same_place (length world.actions) p a q b here.action there.action outer.0 in
    (inner.0, inner.1, outer.1)

-- they have one text each
pub same_texts : (world : WorldValue) (p a r : ℕ) (t u : CellTexts) → HasTexts world p a r t → HasTexts world p a r u → t ≡ u
same_texts world p a r t u here there =
    let one : here.principal.0 ≡ there.principal.0 = cc in
    let principal : t.principal ≡ u.principal = here.principal.2 ∙ ap principal_text one ∙ sym there.principal.2 in
    let action : t.action ≡ u.action = cc in
    let last : here.resource.0 ≡ there.resource.0 = cc in
    let resource : t.resource ≡ u.resource = here.resource.2 ∙ ap (λ (x : ResourceValue). x.arn) last ∙ sym there.resource.2 in
    let texts : List ℕ → List ℕ → List ℕ → CellTexts = λ x y z. record { principal = x; action = y; resource = z } in
    ap (λ x. texts x t.action t.resource) principal ∙ ap (λ x. texts u.principal x t.resource) action ∙ ap (texts u.principal u.action) resource

-- a cell has one text of each
pub one_texts : (world : WorldValue) (cell : ℕ) (t u : CellTexts) → IsCellTexts world cell t → IsCellTexts world cell u → t ≡ u
one_texts world cell t u (p, a, r, here, has) (q, b, s, there, has') =
    let same = one_triple world cell p a r q b s here there in
    same_texts world p a r t u has
    (subst (λ x. HasTexts world x a r u) (sym same.0) (subst (λ x. HasTexts world q x r u) (sym same.1) (subst (λ x. HasTexts world q b x u) (sym same.2) has')))

pub found : {A : Type 0} (xs : List A) (i : ℕ) → i < length xs → (x : A) × (slice_get xs i ≡ Some x)
found [] i h = absurd (omega arith)
found (x ∷ xs) zero h = (x, refl)
found (x ∷ xs) (suc i) h = found xs i (omega arith)

-- a cell has texts
pub texts_there : (world : WorldValue) (cell p a r : ℕ) → IsCell world cell p a r → (texts : CellTexts) × HasTexts world p a r texts
texts_there world cell p a r is =
    let principal = found world.principals p is.principal in
    let action = found world.actions a is.action in
    let resource = found world.resources r is.resource in (
      record { principal = principal_text principal.0; action = action.0; resource = resource.0.arn },
      record { principal = (principal.0, principal.1, refl); action = action.1; resource = (resource.0, resource.1, refl) },
    )

-- what stands in two lists one behind the other
get_first : {A : Type 0} (xs ys : List A) (i : ℕ) → i < length xs → slice_get (xs ++ ys) i ≡ slice_get xs i
get_first [] ys i h = absurd (omega arith)
get_first (x ∷ xs) ys zero h = refl
get_first (x ∷ xs) ys (suc i) h = get_first xs ys i (omega arith)

get_second : {A : Type 0} (xs ys : List A) (n i j : ℕ) → n ≡ length xs → i ≡ n + j → slice_get (xs ++ ys) i ≡ slice_get ys j
get_second [] ys n i j e f = let same : i ≡ j = omega arith in ap (slice_get ys) same
get_second (x ∷ xs) ys n zero j e f = absurd (omega arith)
get_second (x ∷ xs) ys n (suc i) j e f = get_second xs ys (n - 1) i j (omega arith) (omega arith)

-- no rows
pub no_rows : {A B : Type 0} (world : WorldValue) (row : ℕ → CellTexts → A → B) (from : ℕ) → AreRowsFrom world row from [] []
no_rows world row from = record { count = refl; each = λ i texts entry is at. absurd (cc) }

-- an element of a list of one
only_first : {A : Type 0} (x y : A) (i : ℕ) → slice_get (x ∷ []) i ≡ Some y → (i ≡ 0) × (x ≡ y)
only_first x y zero at = (refl, cc)
only_first x y (suc i) at = absurd (cc)

-- one row
pub one_row : {A B : Type 0} (world : WorldValue) (row : ℕ → CellTexts → A → B) (from : ℕ) (texts : CellTexts) (entry : A) → IsCellTexts world from texts
    → AreRowsFrom world row from (entry ∷ []) (row from texts entry ∷ [])
one_row {A} {B} world row from texts entry is = record {
  count = refl;
  each = λ i other x here at.
      let only = only_first entry x i at in
      let cell : from + i ≡ from = omega (arith, only.0) in
      let same : other ≡ texts = one_texts world from other texts (subst (λ c. IsCellTexts world c other) cell here) is in
      ap (slice_get (row from texts entry ∷ [])) only.0
      ∙ ap (λ t. Some (row from t entry)) (sym same) ∙ ap (λ c. Some (row c other entry)) (sym cell) ∙ ap (λ y. Some (row (from + i) other y)) only.1;
}

-- rows behind rows
pub both_rows : {A B : Type 0} (world : WorldValue) (row : ℕ → CellTexts → A → B) (from : ℕ) (xs ys : List A) (rows others : List B)
    → AreRowsFrom world row from xs rows → AreRowsFrom world row (from + length xs) ys others → AreRowsFrom world row from (xs ++ ys) (rows ++ others)
both_rows {A} {B} world row from xs ys rows others first second = record {
  count = length-append rows others ∙ ap (λ n. n + length others) first.count ∙ ap (λ n. length xs + n) second.count ∙ sym (length-append xs ys);
  each = λ i texts x is at. ⊎_elim
      (λ inside.
      let same = get_first xs ys i inside in
      let within : i < length rows = rw first.count inside in
      get_first rows others i within ∙ first.each i texts x is (sym same ∙ at))
      (λ past.
      let j = i - length xs in
      let cell : from + i ≡ from + length xs + j = omega arith in
      let e : i ≡ length xs + j = omega arith in
      let here = get_second xs ys (length xs) i j refl e in
      let there = get_second rows others (length xs) i j (sym first.count) e in
      there ∙ second.each j texts x (subst (λ c. IsCellTexts world c texts) cell is) (sym here ∙ at) ∙ ap (λ c. Some (row c texts x)) (sym cell))
      (cases_lt i (length xs));
}

-- ---- what a text gains

-- the text gained the rows of these entries, whose cells are there and follow one another from this one
pub record AddsRows {A : Type 0} (world : WorldValue) (row : ℕ → CellTexts → A → List ℕ) (from : ℕ) (entries : List A) (old new : List ℕ) : Type 0 where
  pub rows : List (List ℕ)
  pub are : AreRowsFrom world row from entries rows
  pub there : (i : ℕ) → i < length entries → (texts : CellTexts) × IsCellTexts world (from + i) texts
  pub text : new ≡ old ++ concat rows

pub adds_none : {A : Type 0} (world : WorldValue) (row : ℕ → CellTexts → A → List ℕ) (from : ℕ) (text : List ℕ) → AddsRows world row from [] text text
adds_none world row from text = record {
  rows = [];
  are = no_rows world row from;
  there = λ i h. absurd (omega arith);
  text = sym (append-nil text);
}

pub adds_one : {A : Type 0} (world : WorldValue) (row : ℕ → CellTexts → A → List ℕ) (from : ℕ) (texts : CellTexts) (entry : A) (old new : List ℕ) → IsCellTexts world from texts
    → new ≡ old ++ row from texts entry → AddsRows world row from (entry ∷ []) old new
adds_one world row from texts entry old new is e = record {
  rows = row from texts entry ∷ [];
  are = one_row world row from texts entry is;
  there = λ i h. let same : from ≡ from + i = omega arith in (texts, subst (λ c. IsCellTexts world c texts) same is);
  text = e ∙ ap (λ t. old ++ t) (sym (append-nil (row from texts entry)));
}

pub adds_both : {A : Type 0} (world : WorldValue) (row : ℕ → CellTexts → A → List ℕ) (from : ℕ) (xs ys : List A) (start old new : List ℕ) → AddsRows world row from xs start old
    → AddsRows world row (from + length xs) ys old new → AddsRows world row from (xs ++ ys) start new
adds_both world row from xs ys start old new first second = record {
  rows = first.rows ++ second.rows;
  are = both_rows world row from xs ys first.rows second.rows first.are second.are;
  there = λ i h. ⊎_elim
      (λ inside. first.there i inside)
      (λ past.
      let j = i - length xs in
      let both = length-append xs ys in
      let cell : from + length xs + j ≡ from + i = omega arith in
      let t = second.there j (omega arith) in
      (t.0, subst (λ c. IsCellTexts world c t.0) cell t.1))
      (cases_lt i (length xs));
  text =
      second.text ∙ ap (λ t. t ++ concat second.rows) first.text ∙ append_assoc start (concat first.rows) (concat second.rows)
      ∙ ap (λ t. start ++ t) (sym (concat-append first.rows second.rows));
}
