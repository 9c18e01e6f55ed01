-- How many requests of a world are none of another, counted cell by cell.
use Rattle.std.proofs.Common.{◌≡◌, ℕ, zero, suc, ◌+◌, ◌<◌, ◌≤◌, List, [], ◌∷◌, ◌++◌, Option, Some, None, length, refl, ap, subst, ◌∙◌, ⊎_elim, inl, inr, ◌⊎◌, arith}
use Rattle.std.specs.List.{slice_get}
use Rattle.std.specs.Option.{option_to_list}
use Rattle.std.proofs.lemmas.Grind.{flat_map-append}
use Rattle.std.proofs.lemmas.List.{length-append}
use Rattle.iam_layers.specs.Cell.{IsCell, principal_text}
use Rattle.iam_layers.specs.Laws.{SomeTriple}
use Rattle.iam_world.specs.World.{WorldValue, world_cells}
use Rattle.iam_row.specs.Report.{AreEntriesFrom, CellTexts, IsCellTexts}
use Rattle.iam_changes.specs.Code.Found.{AreLinked, FinderValue, IsLeftCount}
use Rattle.iam_changes.specs.Lists.{somes}
use Rattle.iam_changes.specs.Requests.{IsUnlessHad}

-- ---- entries of cells, one more each

last_or_before : {X : Type 0} (xs : List X) (x e : X) (i : ℕ) → slice_get (xs ++ x ∷ []) i ≡ Some e → (slice_get xs i ≡ Some e) ⊎ ((i ≡ length xs) × (x ≡ e))
last_or_before [] x e zero at = inr (refl, cc)
last_or_before [] x e (suc i) at = absurd (let wrong : ⊥ = cc in wrong)
last_or_before (y ∷ xs) x e zero at = inl at
last_or_before (y ∷ xs) x e (suc i) at = ⊎_elim (λ before. inl before) (λ last. inr (let same = last.0 in omega (arith, same), last.1)) (last_or_before xs x e i at)

entries_more : {X : Type 0} (Is : ℕ → X → Type 0) (from : ℕ) (xs : List X) (x : X) → AreEntriesFrom Is from xs → Is (from + length xs) x → AreEntriesFrom Is from (xs ++ x ∷ [])
entries_more {X} Is from xs x each is i e at =
    ⊎_elim (each i e)
    (λ last. subst (Is (from + i)) last.1 (let same : from + length xs ≡ from + i = (let n = last.0 in omega (arith, n)) in subst (λ n. Is n x) same is))
    (last_or_before xs x e i at)

no_entries : {X : Type 0} (Is : ℕ → X → Type 0) (from : ℕ) → AreEntriesFrom Is from []
no_entries Is from i e at = absurd (let wrong : ⊥ = cc in wrong)

-- ---- those that are there

somes_more : {X : Type 0} (xs : List (Option X)) (x : Option X) → somes (xs ++ x ∷ []) ≡ somes xs ++ somes (x ∷ [])
somes_more xs x = flat_map-append option_to_list xs (x ∷ [])

few_somes : {X : Type 0} (xs : List (Option X)) → length (somes xs) ≤ length xs
few_somes [] = omega arith
few_somes (None ∷ xs) = let few = few_somes xs in omega (arith, few)
few_somes (Some x ∷ xs) = let few = few_somes xs in omega (arith, few)

-- ---- texts of cells

at_place : {X : Type 0} (xs : List X) (i : ℕ) → i < length xs → (x : X) × (slice_get xs i ≡ Some x)
at_place [] i below = absurd (omega (arith, below))
at_place (x ∷ xs) zero below = (x, refl)
at_place (x ∷ xs) (suc i) below = at_place xs i (omega (arith, below))

pub cell_texts : (world : WorldValue) (cell p a r : ℕ) → IsCell world cell p a r → (texts : CellTexts) × IsCellTexts world cell texts
cell_texts world cell p a r is =
    let (principal, p_at) = at_place world.principals p is.principal in
    let (action, a_at) = at_place world.actions a is.action in
    let (resource, r_at) = at_place world.resources r is.resource in (
      record { principal = principal_text principal; action = action; resource = resource.arn },
      (p, a, r, is, record { principal = (principal, p_at, refl); action = a_at; resource = (resource, r_at, refl) }),
    )

-- ---- the requests that another world does not have

abbrev pub IsLeftEntry : WorldValue → WorldValue → ℕ → Option CellTexts → Type 0
IsLeftEntry world other cell entry = (texts : CellTexts) × IsCellTexts world cell texts × IsUnlessHad other texts entry

-- so many of so many first cells are of such requests
pub record LeftTo (world other : WorldValue) (cells count : ℕ) : Type 0 where
  pub lasts : List (Option CellTexts)
  pub all : length lasts ≡ cells
  pub each : AreEntriesFrom (IsLeftEntry world other) 0 lasts
  pub count_is : count ≡ length (somes lasts)

pub left_none : (world other : WorldValue) → LeftTo world other 0 0
left_none world other = record { lasts = []; all = refl; each = no_entries (IsLeftEntry world other) 0; count_is = refl }

pub left_more : (world other : WorldValue) (cells count more : ℕ) (entry : Option CellTexts) → IsLeftEntry world other cells entry → more ≡ count + length (somes (entry ∷ []))
    → LeftTo world other cells count → LeftTo world other (cells + 1) more
left_more world other cells count more entry is e left =
    let here : cells ≡ 0 + length left.lasts = omega (arith, left.all) in
    record {
      lasts = left.lasts ++ entry ∷ [];
      all = omega (arith, length-append left.lasts (entry ∷ []), left.all);
      each = entries_more (IsLeftEntry world other) 0 left.lasts entry left.each (subst (λ n. IsLeftEntry world other n entry) here is);
      count_is =
          let parts = ap (λ (xs : List CellTexts). length xs) (somes_more left.lasts entry) ∙ length-append (somes left.lasts) (somes (entry ∷ [])) in
          omega (arith, e, left.count_is, parts);
    }

pub left_count : (world other : WorldValue) (count : ℕ) → LeftTo world other (world_cells world) count → IsLeftCount world other count
left_count world other count left = (left.lasts, record { count = left.all; each = left.each }, left.count_is)

-- ---- all requests of a world

record FirstTo (world : WorldValue) (cells : ℕ) : Type 0 where
  firsts : List CellTexts
  all : length firsts ≡ cells
  each : AreEntriesFrom (λ cell request. (texts : CellTexts) × IsCellTexts world cell texts × (request ≡ texts)) 0 firsts

first_to : SomeTriple → (world : WorldValue) (cells : ℕ) → cells ≤ world_cells world → FirstTo world cells
first_to triples world zero most = record { firsts = []; all = refl; each = no_entries (λ cell request. (texts : CellTexts) × IsCellTexts world cell texts × (request ≡ texts)) 0 }
first_to triples world (suc n) most =
    let Is : ℕ → CellTexts → Type 0 = λ cell request. (texts : CellTexts) × IsCellTexts world cell texts × (request ≡ texts) in
    let before = first_to triples world n (omega (arith, most)) in
    let (p, a, r, is) = triples world n (omega (arith, most)) in
    let (texts, of) = cell_texts world n p a r is in
    let here : n ≡ 0 + length before.firsts = let all = before.all in omega (arith, all) in
    record {
      firsts = before.firsts ++ texts ∷ [];
      all = let all = before.all in omega (arith, length-append before.firsts (texts ∷ []), all);
      each = entries_more Is 0 before.firsts texts before.each (subst (λ k. Is k texts) here (texts, of, refl));
    }

-- two worlds and finders of each in the other
pub linked : SomeTriple → (before after : WorldValue) (left count : ℕ) (to_before to_after : FinderValue) → to_before.world ≡ after → to_before.other ≡ before
    → to_after.world ≡ before → to_after.other ≡ after → IsLeftCount before after left → count ≡ world_cells after + left → AreLinked before after count to_before to_after
linked triples before after left count to_before to_after e f g h (lasts, of_lasts, is) total =
    let first = first_to triples after (world_cells after) (omega arith) in
    let all = first.all in
    let finder : WorldValue → WorldValue → FinderValue = λ world other. record { world = world; other = other } in
    record {
      back = ap (λ (world : WorldValue). finder world to_before.other) e ∙ ap (finder after) f;
      forth = ap (λ (world : WorldValue). finder world to_after.other) g ∙ ap (finder before) h;
      count_is = (
        first.firsts ++ somes lasts,
        (first.firsts, lasts, record { count = first.all; each = first.each }, of_lasts, refl),
        omega (arith, total, is, length-append first.firsts (somes lasts), all),
      );
      most = let few = few_somes lasts in let cells = of_lasts.count in omega (arith, total, is, few, cells);
      least = omega (arith, total);
    }
