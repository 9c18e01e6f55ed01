-- Places in their order, and those of groups that have matched for good.
use Rattle.std.proofs.Common.{◌≡◌, ◌⊎◌, inl, inr, ℕ, zero, suc, ◌<◌, ◌≤◌, Bool, true, false, ◌&&◌, ◌==◌, List, [], ◌∷◌, length, get_or, refl, sym, ap, ◌∙◌, subst, arith, nat_cmp, nat_lt, ◌||◌}
use Rattle.std.proofs.lemmas.Bool.Decides.{nat_tests}
use Rattle.std.specs.Cmp.{IsEquivalence, IsTotalOrder}
use Rattle.std.specs.List.{Contains, dedup, list_any}
use Rattle.std.specs.List.Sorted.{IsStrictlyIncreasing, IsBinarySearchResult, IsPermutation, IsSorted}
use Rattle.std.specs.Ordering.{eq_by_cmp}
use Rattle.std.proofs.lemmas.Cmp.{nat_cmp_total, on_total, then_total}
use Rattle.iam_kinds.specs.Places.{IsRising, place_cmp}
use Rattle.std.specs.List.Retain.{IsFiltered, DiffersFromLast}
use Rattle.std.proofs.Math.Dec.{eqb}
use Rattle.std.proofs.lemmas.Bool.{eqb-true, eq-eqb}
use Rattle.std.proofs.lemmas.List.Filters.{dedup_is}
use Rattle.std.proofs.lemmas.List.Kept.{Contains-dedup, Contains-from_dedup, IsStrictlySortedBy-dedup}
use Rattle.std.proofs.lemmas.List.Sorted.{Contains-permutation, IsPermutation-sym, searched}
use Rattle.std.proofs.lemmas.Map.Keys.{non_decreasing_from_sorted, sorted_from_strictly_increasing}
use Rattle.std.specs.declared.result.Result.TheVariants.{Err}
use Rattle.iam_kinds.specs.Code.{SameElements, good_groups, group_at, is_good, is_last_any, rest_at, place_at}
use Rattle.iam_kinds.specs.declared.table.Pattern.{Pattern}
use Rattle.iam_kinds.specs.declared.table.Place.{Place}
use Rattle.iam_kinds.proofs.Members.{In, in_of, of_in, in_any, from_any, or_true}

-- `==` at places
abbrev pub place_eq : Place → Place → Bool
place_eq a b = eqb a.pattern b.pattern && eqb a.at b.at

pub both : (x y : Bool) → (x && y) ≡ true → (x ≡ true) × (y ≡ true)
both true y e = (refl, e)
both false y e = absurd (cc)

pub place_same : (a b : Place) → place_eq a b ≡ true → a ≡ b
place_same a b e =
    let r = both (eqb a.pattern b.pattern) (eqb a.at b.at) e in
    ap (λ p. place_at p a.at) (eqb-true a.pattern b.pattern r.0) ∙ ap (λ i. place_at b.pattern i) (eqb-true a.at b.at r.1)

pub place_self : (a : Place) → place_eq a a ≡ true
place_self a =
    let p : eqb a.pattern a.pattern ≡ true = eq-eqb a.pattern a.pattern refl in
    let q : eqb a.at a.at ≡ true = eq-eqb a.at a.at refl in rw (p, q) refl

pub both_ways : (s t : Bool) → (s ≡ true → t ≡ true) → (t ≡ true → s ≡ true) → s ≡ t
both_ways true t f g = sym (f refl)
both_ways false true f g = g refl
both_ways false false f g = refl

pub places_alike : IsEquivalence place_eq
places_alike = record {
  refl = place_self;
  symm = λ x y. both_ways (place_eq x y) (place_eq y x) (turned x y) (turned y x);
  congr = λ x y z e. ap (λ p. place_eq p z) (place_same x y e);
}
  where
    turned : (x y : Place) → place_eq x y ≡ true → place_eq y x ≡ true
    turned x y e = let P : Place → Type 0 = λ p. place_eq p x ≡ true in subst P (place_same x y e) (place_self x)

-- a sort and a `dedup` keep the elements
pub sorted_same : (xs ys zs : List Place) → IsPermutation xs ys → IsFiltered (DiffersFromLast place_eq) [] ys zs → SameElements zs xs
sorted_same xs ys zs moved kept =
    let is = dedup_is place_eq ys zs kept in
    let P : List Place → Type 0 = λ l. SameElements l xs in
    subst P (sym is) (λ x. (
      λ h. Contains-permutation ys xs x (IsPermutation-sym xs ys moved) (Contains-from_dedup place_eq ys x h),
      λ h. Contains-dedup places_alike place_same ys x (Contains-permutation xs ys x moved h),
    ))

-- a number that a search did not find in rising numbers is none of them
pub le_cases : (k i : ℕ) → (k < i) ⊎ (i ≤ k)
le_cases k i = by_test k i (nat_lt k i) refl
  where
    by_test : (k i : ℕ) (b : Bool) → nat_lt k i ≡ b → (k < i) ⊎ (i ≤ k)
    by_test k i true e = inl (grind (arith, nat_tests))
    by_test k i false e = inr (grind (arith, nat_tests))

-- an element of a list does not depend on what is read past it
pub get_or_any : {A : Type 0} (xs : List A) (k : ℕ) (d e : A) → k < length xs → get_or xs k d ≡ get_or xs k e
get_or_any [] k d e below = absurd (omega (arith, below))
get_or_any (x ∷ xs) zero d e below = refl
get_or_any (x ∷ xs) (suc k) d e below = get_or_any xs k d e (omega (arith, below))

pub not_found : (xs : List ℕ) (x i : ℕ) → IsStrictlyIncreasing xs → IsBinarySearchResult (λ y. nat_cmp y x) xs (Err i) → list_any (λ y. y == x) xs ≡ false
not_found xs x i rising result =
    let up = non_decreasing_from_sorted xs (sorted_from_strictly_increasing xs rising) in
    let r = searched xs x (Err i) result (λ i j le below. up i j 0 le below) in
    by_test xs x (λ h. elsewhere xs x i r.1 r.2 h) (list_any (λ y. y == x) xs) refl
  where
    elsewhere : (xs : List ℕ) (x i : ℕ) → ((k : ℕ) → k < i → get_or xs k 0 < x) → ((k : ℕ) → i ≤ k → k < length xs → x < get_or xs k 0) → Contains xs x → ⊥
    elsewhere xs x i low high (k, below, same) =
        let here : get_or xs k 0 ≡ x = get_or_any xs k 0 x below ∙ same in
        let down : k < i → get_or xs k 0 < x = low k in
        let up : i ≤ k → get_or xs k 0 < x ⊎ x < get_or xs k 0 = λ h. inr (high k h below) in
        elim (le_cases k i) [ inl h ↦ let l : get_or xs k 0 < x = low k h in omega arith | inr h ↦ let l : x < get_or xs k 0 = high k h below in omega arith ]

    by_test : (xs : List ℕ) (x : ℕ) → (Contains xs x → ⊥) → (b : Bool) → list_any (λ y. y == x) xs ≡ b → list_any (λ y. y == x) xs ≡ false
    by_test xs x none true e =
        let r = from_any (λ y. y == x) xs e in
        let P : ℕ → Type 0 = λ y. In y xs in
        absurd (none (of_in xs x (subst P (eqb-true r.0 x r.2) r.1)))
    by_test xs x none false e = e

-- the groups that have matched for good
pub good_is : (patterns : List Pattern) (places : List Place) (numbers : List ℕ) (g : ℕ) → SameElements numbers (good_groups patterns places)
    → list_any (λ n. n == g) numbers ≡ is_good patterns places g
good_is patterns places numbers g same =
    both_ways (list_any (λ n. n == g) numbers) (is_good patterns places g) (
    λ e.
    let r = from_any (λ n. n == g) numbers e in
    let P : ℕ → Type 0 = λ n. In n (good_groups patterns places) in
    there patterns places g (subst P (eqb-true r.0 g r.2) (in_of _ r.0 ((same r.0).0 (of_in numbers r.0 r.1))))
    ) (
    λ e. in_any (λ n. n == g) numbers g (in_of numbers g ((same g).1 (of_in _ g (back patterns places g e)))) (eq-eqb g g refl)
    )
  where
    there : (patterns : List Pattern) (places : List Place) (g : ℕ) → In g (good_groups patterns places) → is_good patterns places g ≡ true
    there patterns [] g h = absurd h
    there patterns (k ∷ ks) g h = by_test patterns k ks g (there patterns ks g) (is_last_any (rest_at patterns k)) refl h
      where
        by_test : (patterns : List Pattern) (k : Place) (ks : List Place) (g : ℕ) → (In g (good_groups patterns ks) → is_good patterns ks g ≡ true)
            → (b : Bool) → is_last_any (rest_at patterns k) ≡ b → In g (good_groups patterns (k ∷ ks)) → is_good patterns (k ∷ ks) g ≡ true
        by_test patterns k ks g later true e h = elim (rw e at h) [
          | inl s ↦ rw (e, eq-eqb (group_at patterns k) g s) refl
          | inr t ↦ rw (later t) (or_true _)
        ]
        by_test patterns k ks g later false e h = rw e (later (rw e at h))

    back : (patterns : List Pattern) (places : List Place) (g : ℕ) → is_good patterns places g ≡ true → In g (good_groups patterns places)
    back patterns [] g e = absurd (cc)
    back patterns (k ∷ ks) g e = by_test patterns k ks g (back patterns ks g) (is_last_any (rest_at patterns k)) refl e
      where
        by_test : (patterns : List Pattern) (k : Place) (ks : List Place) (g : ℕ) → (is_good patterns ks g ≡ true → In g (good_groups patterns ks))
            → (b : Bool) → is_last_any (rest_at patterns k) ≡ b → is_good patterns (k ∷ ks) g ≡ true → In g (good_groups patterns (k ∷ ks))
        by_test patterns k ks g later true e h = rw e (by_group patterns k ks g later (group_at patterns k == g) refl (rw e at h))
          where
            by_group : (patterns : List Pattern) (k : Place) (ks : List Place) (g : ℕ) → (is_good patterns ks g ≡ true → In g (good_groups patterns ks))
                → (b : Bool) → (group_at patterns k == g) ≡ b → ((group_at patterns k == g) || is_good patterns ks g) ≡ true
                → In g (group_at patterns k ∷ good_groups patterns ks)
            by_group patterns k ks g later true e h = inl (eqb-true (group_at patterns k) g e)
            by_group patterns k ks g later false e h = inr (later (rw e at h))
        by_test patterns k ks g later false e h = rw e (later (rw e at h))

-- ---- the order of places
pub place_total : IsTotalOrder place_cmp
place_total = then_total (on_total (λ (k : Place). k.pattern) nat_cmp_total) (on_total (λ (k : Place). k.at) nat_cmp_total)

pub place_ties : (x y : Place) → place_eq x y ≡ eq_by_cmp place_cmp x y
place_ties x y = grind (arith, nat_tests)

-- what a sort and a `dedup` leave is in order
pub rises : (places : List Place) → IsSorted place_cmp places → IsRising (dedup place_eq places)
rises places sorted = IsStrictlySortedBy-dedup place_total place_ties places sorted
