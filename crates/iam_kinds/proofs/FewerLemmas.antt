-- A list has no more elements than another where each has its own there.
use Rattle.std.specs.Prelude.{⊤}
use Rattle.std.proofs.Common.{◌≡◌, ◌≢◌, inl, inr, ℕ, suc, ◌<◌, ◌≤◌, ◌+◌, List, [], ◌∷◌, ◌++◌, length, map, get_or, refl, sym, ap, ◌∙◌, subst, arith}
use Rattle.std.specs.List.{AllPairs, Contains, sum_by}
use Rattle.std.proofs.lemmas.List.Kept.{AllPairs-cons}
use Rattle.std.proofs.lemmas.List.Sums.{sum_by-append, sum_by-cons}
use Rattle.iam_kinds.proofs.Members.{In, all_of, from_map, in_append, in_left, in_map, in_of, in_right, of_in}

-- `AllPairs` by recursion
abbrev pub ApartBy : {A : Type 0} → (A → A → Type 0) → List A → Type 0
ApartBy R [] = ⊤
ApartBy {A} R (x ∷ xs) = ((y : A) → In y xs → R x y) × ApartBy R xs

pub apart_by : {A : Type 0} (R : A → A → Type 0) (xs : List A) → AllPairs R xs → ApartBy R xs
apart_by R [] pairs = tt
apart_by {A} R (x ∷ xs) pairs = (
  λ y h.
      let c = of_in xs y h in
      let below : c.0 < length xs = c.1 in
      let same : get_or xs c.0 y ≡ y = c.2 in
      let P : A → Type 0 = λ z. R x z in
      subst P same (pairs 0 (suc c.0) y (omega arith) (omega arith)),
  apart_by R xs (λ i j d less below. pairs (suc i) (suc j) d (omega (arith, less)) (omega (arith, below))),
)

pub by_apart : {A : Type 0} (R : A → A → Type 0) (xs : List A) → ApartBy R xs → AllPairs R xs
by_apart R [] apart = λ i j d less below. absurd (omega (arith, below))
by_apart R (x ∷ xs) apart = AllPairs-cons R x xs (all_of (R x) xs apart.0) (by_apart R xs apart.1)

pub apart_weaker : {A : Type 0} (R S : A → A → Type 0) (xs : List A) → ((x y : A) → In x xs → In y xs → R x y → S x y) → ApartBy R xs → ApartBy S xs
apart_weaker R S [] to apart = tt
apart_weaker R S (x ∷ xs) to apart = (
  λ y h. to x y (inl refl) (inr h) (apart.0 y h),
  apart_weaker R S xs (λ y z h k. to y z (inr h) (inr k)) apart.1,
)

pub apart_map : {A B : Type 0} (f : A → B) (R : B → B → Type 0) (xs : List A) → ApartBy (λ x y. R (f x) (f y)) xs → ApartBy R (map f xs)
apart_map f R [] apart = tt
apart_map {A} {B} f R (x ∷ xs) apart = (
  λ y h.
      let r = from_map f xs y h in
      let P : B → Type 0 = λ z. R (f x) z in
      subst P r.2 (apart.0 r.0 r.1),
  apart_map f R xs apart.1,
)

pub apart_unmap : {A B : Type 0} (f : A → B) (R : B → B → Type 0) (xs : List A) → ApartBy R (map f xs) → ApartBy (λ x y. R (f x) (f y)) xs
apart_unmap f R [] apart = tt
apart_unmap f R (x ∷ xs) apart = (λ y h. apart.0 (f y) (in_map f xs y h), apart_unmap f R xs apart.1)

-- pairs stay as they are where the relation is another one of elements
pub pairs_weaker : {A : Type 0} (R S : A → A → Type 0) (xs : List A) → ((x y : A) → In x xs → In y xs → R x y → S x y) → AllPairs R xs → AllPairs S xs
pairs_weaker R S xs to pairs = by_apart S xs (apart_weaker R S xs to (apart_by R xs pairs))

-- of such elements those that are related are one
pub only_one : {A : Type 0} (S : A → A → Type 0) (xs : List A) (x y : A) → ((a b : A) → S a b → S b a) → ApartBy (λ a b. ¬ S a b) xs
    → In x xs → In y xs → S x y → x ≡ y
only_one S [] x y turn apart h k s = absurd h
only_one S (z ∷ xs) x y turn apart (inl e) (inl f) s = sym e ∙ f
only_one {A} S (z ∷ xs) x y turn apart (inl e) (inr k) s = let P : A → Type 0 = λ a. S a y in absurd (apart.0 y k (subst P (sym e) s))
only_one {A} S (z ∷ xs) x y turn apart (inr h) (inl f) s = let P : A → Type 0 = λ a. S a x in absurd (apart.0 x h (subst P (sym f) (turn x y s)))
only_one S (z ∷ xs) x y turn apart (inr h) (inr k) s = only_one S xs x y turn apart.1 h k s

pub split_at : {A : Type 0} (xs : List A) (x : A) → In x xs → (a b : List A) × (xs ≡ a ++ (x ∷ b))
split_at [] x h = absurd h
split_at (y ∷ xs) x (inl e) = ([], xs, ap (λ z. z ∷ xs) e)
split_at (y ∷ xs) x (inr h) = let r = split_at xs x h in (y ∷ r.0, r.1, ap (λ l. y ∷ l) r.2)

pub sum_around : {A : Type 0} (f : A → ℕ) (a : List A) (x : A) (b : List A) → sum_by f (a ++ (x ∷ b)) ≡ f x + sum_by f (a ++ b)
sum_around f a x b =
    let one = sum_by-append f a (x ∷ b) in
    let two = sum_by-cons f x b in
    let three = sum_by-append f a b in omega (arith, one, two, three)

-- each x has a y of its own whose weight is not less
pub fewer : {A B : Type 0} (T : A → B → Type 0) (f : A → ℕ) (g : B → ℕ) (xs : List A) (ys : List B)
    → ((x : A) → In x xs → (y : B) × In y ys × T x y) → ApartBy (λ x z. (y : B) → T x y → T z y → ⊥) xs
    → ((x : A) (y : B) → T x y → f x ≤ g y) → sum_by f xs ≤ sum_by g ys
fewer T f g [] ys has apart less = omega arith
fewer {A} {B} T f g (x ∷ xs) ys has apart less =
    let m = has x (inl refl) in
    let s = split_at ys m.0 m.1 in
    let rest : sum_by f xs ≤ sum_by g (s.0 ++ s.1) = fewer T f g xs (s.0 ++ s.1) (λ z h.
    let n = has z (inr h) in
    let P : List B → Type 0 = λ l. In n.0 l in (
      n.0,
      elim (in_append s.0 (m.0 ∷ s.1) n.0 (subst P s.2 n.1)) [
        | inl a ↦ in_left s.0 s.1 n.0 a
        | inr b ↦ elim b [
          | inl same ↦ let Q : B → Type 0 = λ y. T z y in absurd (apart.0 z h m.0 m.2 (subst Q (sym same) n.2))
          | inr later ↦ in_right s.0 s.1 n.0 later
        ]
      ],
      n.2,
    )) apart.1 less in
    let first = sum_by-cons f x xs in
    let all : sum_by g ys ≡ g m.0 + sum_by g (s.0 ++ s.1) = ap (sum_by g) s.2 ∙ sum_around g s.0 m.0 s.1 in
    let here : f x ≤ g m.0 = less x m.0 m.2 in
    omega (arith, first, all, here, rest)

pub sum_ones : {A : Type 0} (xs : List A) → sum_by (λ x. 1) xs ≡ length xs
sum_ones [] = refl
sum_ones {A} (x ∷ xs) =
    let f : A → ℕ = λ x. 1 in
    let one = sum_by-cons f x xs in
    let two = sum_ones xs in omega (arith, one, two)

pub fewer_elements : {A B : Type 0} (T : A → B → Type 0) (xs : List A) (ys : List B)
    → ((x : A) → In x xs → (y : B) × In y ys × T x y) → ApartBy (λ x z. (y : B) → T x y → T z y → ⊥) xs → length xs ≤ length ys
fewer_elements {A} {B} T xs ys has apart =
    let f : A → ℕ = λ x. 1 in
    let g : B → ℕ = λ y. 1 in
    let r = fewer T f g xs ys has apart (λ x y t. omega arith) in
    let one = sum_ones xs in
    let two = sum_ones ys in omega (arith, r, one, two)

-- a list whose elements are others each is not longer than one that has them all
pub fewer_once : {A : Type 0} (xs ys : List A) → AllPairs (λ one other. one ≢ other) xs → ((x : A) → Contains xs x → Contains ys x) → length xs ≤ length ys
fewer_once {A} xs ys once to =
    fewer_elements (λ x y. x ≡ y) xs ys (λ x h. (x, in_of ys x (to x (of_in xs x h)), refl))
    (apart_weaker (λ one other. one ≢ other) (λ x z. (y : A) → x ≡ y → z ≡ y → ⊥) xs (λ x z h k differ y e f. differ (e ∙ sym f))
    (apart_by (λ one other. one ≢ other) xs once))
