-- Members of lists.
use Rattle.std.proofs.Common.{◌≡◌, ◌⊎◌, inl, inr, ◌<◌, ◌+◌, ℕ, zero, suc, Err, IfOk, List, Ok, Result, [], ◌∷◌, ◌++◌, ◌∙◌, append_assoc, arith, ap, get_or, length, map, subst, refl, sym, take}
use Rattle.std.proofs.lemmas.List.{append-nil, map-append, take_more}
use Rattle.std.proofs.lemmas.List.Elements.{Contains-append_cases, Contains-append_left, Contains-append_right}
use Rattle.std.specs.List.{Any, Contains, flat_map}

pub here : {X : Type 0} (x : X) (xs : List X) → Contains (x ∷ xs) x
here x xs = (0, omega arith, refl)

pub behind : {X : Type 0} (y x : X) (xs : List X) → Contains xs x → Contains (y ∷ xs) x
behind y x xs (k, below, at) = (suc k, omega (arith, below), at)

pub first_or : {X : Type 0} (y x : X) (xs : List X) → Contains (y ∷ xs) x → (y ≡ x) ⊎ Contains xs x
first_or y x xs (zero, below, at) = inl at
first_or y x xs (suc k, below, at) = inr (k, omega (arith, below), at)

pub none : {X : Type 0} (x : X) → ¬ Contains [] x
none x (k, below, at) = omega (arith, below)

pub mapped : {X Y : Type 0} (f : X → Y) (x : X) (xs : List X) → Contains xs x → Contains (map f xs) (f x)
mapped f x [] h = absurd (none x h)
mapped {X} {Y} f x (y ∷ xs) h = elim (first_or y x xs h) [
  | inl same ↦ subst (λ (z : Y). Contains (f y ∷ map f xs) z) (ap f same) (here (f y) (map f xs))
  | inr rest ↦ behind (f y) (f x) (map f xs) (mapped f x xs rest)
]

pub of_mapped : {X Y : Type 0} (f : X → Y) (y : Y) (xs : List X) → Contains (map f xs) y → (x : X) × Contains xs x × (f x ≡ y)
of_mapped f y [] h = absurd (none y h)
of_mapped f y (x ∷ xs) h = elim (first_or (f x) y (map f xs) h) [
  | inl same ↦ (x, here x xs, same)
  | inr rest ↦ let (z, among, is) = of_mapped f y xs rest in (z, behind x z xs among, is)
]

pub joined : {X Y : Type 0} (f : X → List Y) (x : X) (y : Y) (xs : List X) → Contains xs x → Contains (f x) y → Contains (flat_map f xs) y
joined f x y [] h among = absurd (none x h)
joined {X} f x y (z ∷ xs) h among = elim (first_or z x xs h) [
  | inl same ↦ Contains-append_left (f z) (flat_map f xs) y (subst (λ (w : X). Contains (f w) y) (sym same) among)
  | inr rest ↦ Contains-append_right (f z) (flat_map f xs) y (joined f x y xs rest among)
]

pub of_joined : {X Y : Type 0} (f : X → List Y) (y : Y) (xs : List X) → Contains (flat_map f xs) y → (x : X) × Contains xs x × Contains (f x) y
of_joined f y [] h = absurd (none y h)
of_joined f y (x ∷ xs) h = elim (Contains-append_cases (f x) (flat_map f xs) y h) [
  | inl among ↦ (x, here x xs, among)
  | inr rest ↦ let (z, there, among) = of_joined f y xs rest in (z, behind x z xs there, among)
]

-- where of each member it is known whether P holds, it is known whether P holds of some
pub some_or_none : {X : Type 0} (P : X → Type 0) → ((x : X) → P x ⊎ ¬ P x) → (xs : List X) → Any P xs ⊎ ¬ Any P xs
some_or_none P known [] = inr (λ (k, x, below, at, holds). omega (arith, below))
some_or_none P known (x ∷ xs) = elim (known x) [
  | inl holds ↦ inl (0, x, omega arith, refl, holds)
  | inr unlike ↦ elim (some_or_none P known xs) [
    | inl (k, y, below, at, holds) ↦ inl (suc k, y, omega (arith, below), at, holds)
    | inr never ↦ inr (first P x xs unlike never)
  ]
]
  where
    first : {X : Type 0} (P : X → Type 0) (x : X) (xs : List X) → ¬ P x → ¬ Any P xs → ¬ Any P (x ∷ xs)
    first P x xs unlike never (zero, y, below, at, holds) = unlike (subst P (sym at) holds)
    first P x xs unlike never (suc k, y, below, at, holds) = never (k, y, omega (arith, below), at, holds)

-- ---- one more element of a list that is walked
pub flat_behind : {X Y : Type 0} (f : X → List Y) (xs : List X) (x : X) → flat_map f (xs ++ x ∷ []) ≡ flat_map f xs ++ f x
flat_behind f [] x = append-nil (f x)
flat_behind f (y ∷ xs) x = ap (λ t. f y ++ t) (flat_behind f xs x) ∙ sym (append_assoc (f y) (flat_map f xs) (f x))

pub flat_more : {Z X Y : Type 0} (f : X → List Y) (v : Z → X) (zs : List Z) (i : ℕ) (z : Z) → i < length zs → z ≡ get_or zs i z
    → flat_map f (map v (take i zs)) ++ f (v z) ≡ flat_map f (map v (take (i + 1) zs))
flat_more f v zs i z below is =
    ap (λ x. flat_map f (map v (take i zs)) ++ f (v x)) is ∙ sym (flat_behind f (map v (take i zs)) (v (get_or zs i z)))
    ∙ ap (flat_map f) (sym (map-append v (take i zs) (get_or zs i z ∷ []))) ∙ ap (λ l. flat_map f (map v l)) (sym (take_more zs i z below))

pub map_more : {Z X Y : Type 0} (f : X → Y) (v : Z → X) (zs : List Z) (i : ℕ) (z : Z) → i < length zs → z ≡ get_or zs i z
    → map f (map v (take i zs)) ++ f (v z) ∷ [] ≡ map f (map v (take (i + 1) zs))
map_more f v zs i z below is =
    ap (λ x. map f (map v (take i zs)) ++ f (v x) ∷ []) is ∙ sym (map-append f (map v (take i zs)) (v (get_or zs i z) ∷ []))
    ∙ ap (map f) (sym (map-append v (take i zs) (get_or zs i z ∷ []))) ∙ ap (λ l. map f (map v l)) (sym (take_more zs i z below))

-- what an answer has, if there is one
pub if_ok_all : {T E : Type 0} (r : Result T E) (P : T → Type 0) → ((x : T) → r ≡ Ok x → P x) → IfOk r P
if_ok_all (Ok x) P h = h x refl
if_ok_all (Err y) P h = tt
