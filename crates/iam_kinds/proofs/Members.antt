-- Elements of lists.
use Rattle.std.proofs.Common.{◌≡◌, ◌⊎◌, inl, inr, ℕ, zero, suc, ◌<◌, ◌+◌, Bool, true, false, ◌||◌, List, [], ◌∷◌, ◌++◌, length, map, refl, sym, ap, ◌∙◌, subst, arith}
use Rattle.std.proofs.Common.{◌≤◌, take, get_or}
use Rattle.std.proofs.lemmas.List.{take_all, take_more, map-append}
use Rattle.std.proofs.lemmas.List.Elements.{All-contains, Contains-get_or}
use Rattle.std.specs.List.{All, Contains, flat_map, list_any}
use Rattle.iam_kinds.specs.Code.{SameElements}

-- the same as `Contains`, by recursion
abbrev pub In : {A : Type 0} → A → List A → Type 0
In x [] = ⊥
In x (y ∷ ys) = (y ≡ x) ⊎ In x ys

pub in_of : {A : Type 0} (xs : List A) (x : A) → Contains xs x → In x xs
in_of [] x (k, below, same) = absurd (omega (arith, below))
in_of (y ∷ ys) x (zero, below, same) = inl same
in_of (y ∷ ys) x (suc k, below, same) = inr (in_of ys x (k, omega (arith, below), same))

pub of_in : {A : Type 0} (xs : List A) (x : A) → In x xs → Contains xs x
of_in [] x h = absurd h
of_in (y ∷ ys) x (inl same) = (0, omega arith, same)
of_in (y ∷ ys) x (inr h) = let c = of_in ys x h in (suc c.0, (let b : c.0 < length ys = c.1 in omega arith), c.2)

pub in_append : {A : Type 0} (xs ys : List A) (x : A) → In x (xs ++ ys) → In x xs ⊎ In x ys
in_append [] ys x h = inr h
in_append (z ∷ xs) ys x (inl e) = inl (inl e)
in_append (z ∷ xs) ys x (inr h) = elim (in_append xs ys x h) [ inl a ↦ inl (inr a) | inr b ↦ inr b ]

pub in_left : {A : Type 0} (xs ys : List A) (x : A) → In x xs → In x (xs ++ ys)
in_left [] ys x h = absurd h
in_left (z ∷ xs) ys x (inl e) = inl e
in_left (z ∷ xs) ys x (inr h) = inr (in_left xs ys x h)

pub in_right : {A : Type 0} (xs ys : List A) (x : A) → In x ys → In x (xs ++ ys)
in_right [] ys x h = h
in_right (z ∷ xs) ys x h = inr (in_right xs ys x h)

pub in_map : {A B : Type 0} (f : A → B) (xs : List A) (x : A) → In x xs → In (f x) (map f xs)
in_map f [] x h = absurd h
in_map f (z ∷ xs) x (inl e) = inl (ap f e)
in_map f (z ∷ xs) x (inr h) = inr (in_map f xs x h)

pub from_map : {A B : Type 0} (f : A → B) (xs : List A) (y : B) → In y (map f xs) → (x : A) × In x xs × (f x ≡ y)
from_map f [] y h = absurd h
from_map f (z ∷ xs) y (inl e) = (z, inl refl, e)
from_map f (z ∷ xs) y (inr h) = let r = from_map f xs y h in (r.0, inr r.1, r.2)

pub in_flat : {A B : Type 0} (f : A → List B) (xs : List A) (x : A) (y : B) → In x xs → In y (f x) → In y (flat_map f xs)
in_flat f [] x y h g = absurd h
in_flat {A} {B} f (z ∷ xs) x y (inl e) g = in_left (f z) (flat_map f xs) y (let P : A → Type 0 = λ a. In y (f a) in subst P (sym e) g)
in_flat f (z ∷ xs) x y (inr h) g = in_right (f z) (flat_map f xs) y (in_flat f xs x y h g)

pub from_flat : {A B : Type 0} (f : A → List B) (xs : List A) (y : B) → In y (flat_map f xs) → (x : A) × In x xs × In y (f x)
from_flat f [] y h = absurd h
from_flat f (z ∷ xs) y h = elim (in_append (f z) (flat_map f xs) y h) [
  | inl a ↦ (z, inl refl, a)
  | inr b ↦ let r = from_flat f xs y b in (r.0, inr r.1, r.2)
]

pub or_true : (b : Bool) → (b || true) ≡ true
or_true true = refl
or_true false = refl

pub in_any : {A : Type 0} (p : A → Bool) (xs : List A) (x : A) → In x xs → p x ≡ true → list_any p xs ≡ true
in_any p [] x h e = absurd h
in_any {A} p (z ∷ xs) x (inl s) e =
    let here : p z ≡ true = ap p s ∙ e in rw here refl
in_any p (z ∷ xs) x (inr h) e = let later : list_any p xs ≡ true = in_any p xs x h e in rw later (or_true (p z))

pub from_any : {A : Type 0} (p : A → Bool) (xs : List A) → list_any p xs ≡ true → (x : A) × In x xs × (p x ≡ true)
from_any p [] e = absurd (cc)
from_any p (z ∷ xs) e = by_test p z xs (from_any p xs) (p z) refl e
  where
    by_test : {A : Type 0} (p : A → Bool) (z : A) (xs : List A) → (list_any p xs ≡ true → (x : A) × In x xs × (p x ≡ true))
        → (b : Bool) → p z ≡ b → list_any p (z ∷ xs) ≡ true → (x : A) × In x (z ∷ xs) × (p x ≡ true)
    by_test p z xs later true s e = (z, inl refl, s)
    by_test p z xs later false s e = let r = later (rw s at e) in (r.0, inr r.1, r.2)

pub not_in_any : {A : Type 0} (p : A → Bool) (xs : List A) (x : A) → list_any p xs ≡ false → In x xs → p x ≡ false
not_in_any p xs x none h = by_test p xs x none h (p x) refl
  where
    by_test : {A : Type 0} (p : A → Bool) (xs : List A) (x : A) → list_any p xs ≡ false → In x xs → (b : Bool) → p x ≡ b → p x ≡ false
    by_test p xs x none h true s = let some : list_any p xs ≡ true = in_any p xs x h s in absurd (cc)
    by_test p xs x none h false s = s

-- a loop over a list has come to its end
pub whole : {A B : Type 0} (f : List A → B) (xs : List A) (n : ℕ) (y : B) → length xs ≤ n → y ≡ f (take n xs) → y ≡ f xs
whole f xs n y all so_far = so_far ∙ ap f (take_all n xs all)

-- it adds what it makes of one more element
pub mapped_more : {A B : Type 0} (f : A → B) (xs : List A) (i : ℕ) (d : A) (ys zs : List B) (y : B) → i < length xs → ys ≡ map f (take i xs)
    → y ≡ f (get_or xs i d) → zs ≡ ys ++ (y ∷ []) → zs ≡ map f (take (i + 1) xs)
mapped_more f xs i d ys zs y below so_far one more =
    let next = take_more xs i d below in
    more ∙ ap (λ l. l ++ (y ∷ [])) so_far ∙ ap (λ v. map f (take i xs) ++ (v ∷ [])) one ∙ sym (map-append f (take i xs) (get_or xs i d ∷ [])) ∙ sym (ap (map f) next)

-- the same elements as those of a list that is the same
pub same_as : {A : Type 0} (xs ys zs : List A) → SameElements xs ys → ys ≡ zs → SameElements xs zs
same_as {A} xs ys zs same e = let P : List A → Type 0 = λ l. SameElements xs l in subst P e same

pub all_of : {A : Type 0} (P : A → Type 0) (xs : List A) → ((x : A) → In x xs → P x) → All P xs
all_of P xs h = λ k d below. h (get_or xs k d) (in_of xs (get_or xs k d) (Contains-get_or xs k d below))

pub of_all : {A : Type 0} (P : A → Type 0) (xs : List A) → All P xs → (x : A) → In x xs → P x
of_all P xs all x h = All-contains P xs x all (of_in xs x h)
