-- Entries of which some are there, and items that stand once.
use Rattle.std.proofs.Common.{◌≡◌, ◌⊎◌, inl, inr, ℕ, zero, suc, List, [], ◌∷◌, ◌++◌, Option, Some, None, refl, sym, ap, subst, ◌∙◌, arith}
use Rattle.std.specs.List.{AllZip, slice_get}
use Rattle.iam_changes.specs.Lists.{somes}

-- ---- where an item stands

pub in_front : {X : Type 0} (xs ys : List X) (i : ℕ) (x : X) → slice_get xs i ≡ Some x → (k : ℕ) × (slice_get (xs ++ ys) k ≡ Some x)
in_front [] ys i x at = absurd (let wrong : ⊥ = cc in wrong)
in_front (y ∷ xs) ys zero x at = (0, at)
in_front (y ∷ xs) ys (suc i) x at = let (k, there) = in_front xs ys i x at in (suc k, there)

pub in_back : {X : Type 0} (xs ys : List X) (i : ℕ) (x : X) → slice_get ys i ≡ Some x → (k : ℕ) × (slice_get (xs ++ ys) k ≡ Some x)
in_back [] ys i x at = (i, at)
in_back (y ∷ xs) ys i x at = let (k, there) = in_back xs ys i x at in (suc k, there)

-- an entry that is there, among those that are
pub some_in : {X : Type 0} (entries : List (Option X)) (k : ℕ) (x : X) → slice_get entries k ≡ Some (Some x) → (i : ℕ) × (slice_get (somes entries) i ≡ Some x)
some_in [] k x at = absurd (let wrong : ⊥ = cc in wrong)
some_in (None ∷ entries) zero x at = absurd (let wrong : ⊥ = cc in wrong)
some_in (Some y ∷ entries) zero x at = (0, let same : y ≡ x = cc in ap Some same)
some_in (None ∷ entries) (suc k) x at = some_in entries k x at
some_in (Some y ∷ entries) (suc k) x at = let (i, there) = some_in entries k x at in (suc i, there)

-- and back
pub some_from : {X : Type 0} (entries : List (Option X)) (i : ℕ) (x : X) → slice_get (somes entries) i ≡ Some x → (k : ℕ) × (slice_get entries k ≡ Some (Some x))
some_from [] i x at = absurd (let wrong : ⊥ = cc in wrong)
some_from (None ∷ entries) i x at = let (k, there) = some_from entries i x at in (suc k, there)
some_from (Some y ∷ entries) zero x at = (0, ap Some at)
some_from (Some y ∷ entries) (suc i) x at = let (k, there) = some_from entries i x at in (suc k, there)

-- ---- what belongs to an item

pub zip_from : {A B : Type 0} (R : A → Option B → Type 0) (xs : List A) (ys : List (Option B)) (i : ℕ) (y : B) → AllZip R xs ys → slice_get (somes ys) i ≡ Some y
    → (k : ℕ) × (x : A) × (slice_get xs k ≡ Some x) × R x (Some y)
zip_from R [] [] i y h at = absurd (let wrong : ⊥ = cc in wrong)
zip_from R [] (z ∷ ys) i y h at = absurd h
zip_from R (x ∷ xs) [] i y h at = absurd h
zip_from R (x ∷ xs) (None ∷ ys) i y h at = let (k, w, there, is) = zip_from R xs ys i y h.1 at in (suc k, w, there, is)
zip_from R (x ∷ xs) (Some z ∷ ys) zero y h at = (0, x, refl, let same : z ≡ y = cc in subst (λ v. R x (Some v)) same h.0)
zip_from R (x ∷ xs) (Some z ∷ ys) (suc i) y h at = let (k, w, there, is) = zip_from R xs ys i y h.1 at in (suc k, w, there, is)

-- what belongs to it, and that it is among those that are there, where it is
pub zip_to : {A B : Type 0} (R : A → Option B → Type 0) (xs : List A) (ys : List (Option B)) (k : ℕ) (x : A) → AllZip R xs ys → slice_get xs k ≡ Some x
    → (entry : Option B) × R x entry × ((y : B) → entry ≡ Some y → (i : ℕ) × (slice_get (somes ys) i ≡ Some y))
zip_to R [] ys k x h at = absurd (let wrong : ⊥ = cc in wrong)
zip_to R (w ∷ xs) [] k x h at = absurd h
zip_to R (w ∷ xs) (entry ∷ ys) zero x h at =
    (entry, (let same : w ≡ x = cc in subst (λ v. R v entry) same h.0), λ y e. some_in (entry ∷ ys) 0 y (ap Some e))
zip_to R (w ∷ xs) (None ∷ ys) (suc k) x h at = zip_to R xs ys k x h.1 at
zip_to R (w ∷ xs) (Some z ∷ ys) (suc k) x h at =
    let (entry, is, up) = zip_to R xs ys k x h.1 at in (entry, is, λ y e. let (i, there) = up y e in (suc i, there))

-- items that belong to the same ones are the same
pub one_zip : {A B : Type 0} (R : A → B → Type 0) → ((x : A) (y z : B) → R x y → R x z → y ≡ z) → (xs : List A) (ys zs : List B) → AllZip R xs ys → AllZip R xs zs → ys ≡ zs
one_zip R one [] [] [] h k = refl
one_zip R one [] [] (z ∷ zs) h k = absurd k
one_zip R one [] (y ∷ ys) zs h k = absurd h
one_zip R one (x ∷ xs) [] zs h k = absurd h
one_zip R one (x ∷ xs) (y ∷ ys) [] h k = absurd k
one_zip R one (x ∷ xs) (y ∷ ys) (z ∷ zs) h k = ap (λ w. w ∷ ys) (one x y z h.0 k.0) ∙ ap (λ ws. z ∷ ws) (one_zip R one xs ys zs h.1 k.1)

-- where nothing belongs to any, nothing is there
pub none_there : {A B : Type 0} (R : A → Option B → Type 0) → ((x : A) (y : B) → ¬ R x (Some y)) → (xs : List A) (ys : List (Option B)) → AllZip R xs ys → somes ys ≡ []
none_there R none [] [] h = refl
none_there R none [] (y ∷ ys) h = absurd h
none_there R none (x ∷ xs) [] h = absurd h
none_there R none (x ∷ xs) (None ∷ ys) h = none_there R none xs ys h.1
none_there R none (x ∷ xs) (Some y ∷ ys) h = absurd (none x y h.0)

-- ---- items that stand once

abbrev pub OnceIn : {X : Type 0} → List X → Type 0
OnceIn {X} xs = (i j : ℕ) (x : X) → slice_get xs i ≡ Some x → slice_get xs j ≡ Some x → i ≡ j

abbrev pub OnceSome : {X : Type 0} → List (Option X) → Type 0
OnceSome {X} entries = (i j : ℕ) (x : X) → slice_get entries i ≡ Some (Some x) → slice_get entries j ≡ Some (Some x) → i ≡ j

down : (i j : ℕ) → suc i ≡ suc j → i ≡ j
down i j e = omega (arith, e)

tail_once : {X : Type 0} (y : X) (xs : List X) → OnceIn (y ∷ xs) → OnceIn xs
tail_once y xs once i j x at there = down i j (once (suc i) (suc j) x at there)

tail_some : {X : Type 0} (y : Option X) (entries : List (Option X)) → OnceSome (y ∷ entries) → OnceSome entries
tail_some y entries once i j x at there = down i j (once (suc i) (suc j) x at there)

split : {X : Type 0} (xs ys : List X) (i : ℕ) (x : X) → slice_get (xs ++ ys) i ≡ Some x → ((k : ℕ) × (slice_get xs k ≡ Some x)) ⊎ ((k : ℕ) × (slice_get ys k ≡ Some x))
split [] ys i x at = inr (i, at)
split (y ∷ xs) ys zero x at = inl (0, at)
split (y ∷ xs) ys (suc i) x at = elim (split xs ys i x at) [
  | inl (k, there) ↦ inl (suc k, there)
  | inr found ↦ inr found
]

never : (k : ℕ) → ¬ (0 ≡ suc k)
never k e = omega (arith, e)

pub once_append : {X : Type 0} (xs ys : List X) → OnceIn xs → OnceIn ys → ((i j : ℕ) (x : X) → slice_get xs i ≡ Some x → ¬ (slice_get ys j ≡ Some x)) → OnceIn (xs ++ ys)
once_append [] ys once other apart i j x at there = other i j x at there
once_append (y ∷ xs) ys once other apart zero zero x at there = refl
once_append (y ∷ xs) ys once other apart zero (suc j) x at there = elim (split xs ys j x there) [
  | inl (k, here) ↦ absurd (never k (once 0 (suc k) x at here))
  | inr (k, here) ↦ absurd (apart 0 k x at here)
]
once_append (y ∷ xs) ys once other apart (suc i) zero x at there = elim (split xs ys i x at) [
  | inl (k, here) ↦ absurd (never k (once 0 (suc k) x there here))
  | inr (k, here) ↦ absurd (apart 0 k x there here)
]
once_append (y ∷ xs) ys once other apart (suc i) (suc j) x at there =
    ap suc (once_append xs ys (tail_once y xs once) other (λ k l z here. apart (suc k) l z here) i j x at there)

pub once_somes : {X : Type 0} (entries : List (Option X)) → OnceSome entries → OnceIn (somes entries)
once_somes [] once i j x at there = absurd (let wrong : ⊥ = cc in wrong)
once_somes (None ∷ entries) once i j x at there = once_somes entries (tail_some None entries once) i j x at there
once_somes (Some y ∷ entries) once zero zero x at there = refl
once_somes (Some y ∷ entries) once zero (suc j) x at there =
    let (k, here) = some_from entries j x there in absurd (never k (once 0 (suc k) x (ap Some at) here))
once_somes (Some y ∷ entries) once (suc i) zero x at there =
    let (k, here) = some_from entries i x at in absurd (never k (once 0 (suc k) x (ap Some there) here))
once_somes (Some y ∷ entries) once (suc i) (suc j) x at there = ap suc (once_somes entries (tail_some (Some y) entries once) i j x at there)

-- what belongs to items that stand once, by what it has of them
pub once_zip : {A B : Type 0} (R : A → Option B → Type 0) (own : B → A) → ((x : A) (y : B) → R x (Some y) → own y ≡ x) → (xs : List A) (ys : List (Option B)) → OnceIn xs
    → AllZip R xs ys → (i j : ℕ) (y z : B) → slice_get (somes ys) i ≡ Some y → slice_get (somes ys) j ≡ Some z → own y ≡ own z → i ≡ j
once_zip R own is [] [] once h i j y z at there same = absurd (let wrong : ⊥ = cc in wrong)
once_zip R own is [] (w ∷ ys) once h i j y z at there same = absurd h
once_zip R own is (x ∷ xs) [] once h i j y z at there same = absurd h
once_zip R own is (x ∷ xs) (None ∷ ys) once h i j y z at there same = once_zip R own is xs ys (tail_once x xs once) h.1 i j y z at there same
once_zip R own is (x ∷ xs) (Some w ∷ ys) once h zero zero y z at there same = refl
once_zip R own is (x ∷ xs) (Some w ∷ ys) once h zero (suc j) y z at there same =
    let (k, v, here, of) = zip_from R xs ys j z h.1 there in
    let first : w ≡ y = cc in
    let x_is : x ≡ v = sym (is x w h.0) ∙ ap own first ∙ same ∙ is v z of in
    absurd (never k (once 0 (suc k) v (ap Some x_is) here))
once_zip R own is (x ∷ xs) (Some w ∷ ys) once h (suc i) zero y z at there same =
    let (k, v, here, of) = zip_from R xs ys i y h.1 at in
    let first : w ≡ z = cc in
    let x_is : x ≡ v = sym (is x w h.0) ∙ ap own first ∙ sym same ∙ is v y of in
    absurd (never k (once 0 (suc k) v (ap Some x_is) here))
once_zip R own is (x ∷ xs) (Some w ∷ ys) once h (suc i) (suc j) y z at there same =
    ap suc (once_zip R own is xs ys (tail_once x xs once) h.1 i j y z at there same)
