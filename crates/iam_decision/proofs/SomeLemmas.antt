-- `Any`, element by element.
use Rattle.std.proofs.Common.{◌≡◌, ◌⊎◌, inl, inr, ◌↔◌, ℕ, suc, zero, ◌+◌, ◌<◌, Bool, true, false, cond, List, [], ◌∷◌, ◌++◌, map, length, get_or, refl, sym, subst, arith}
use Rattle.std.specs.List.{Any, enumerate_from, filter, flat_map}

-- some element has the property
abbrev pub SomeOf : {X : Type 0} → (X → Type 0) → List X → Type 0
SomeOf P [] = ⊥
SomeOf P (x ∷ xs) = P x ⊎ SomeOf P xs

pub some_from_any : {X : Type 0} (P : X → Type 0) (xs : List X) → Any P xs → SomeOf P xs
some_from_any P [] (k, x, below, at, p) = absurd (omega arith)
some_from_any P (y ∷ xs) (zero, x, below, at, p) = inl (subst P (sym at) p)
some_from_any P (y ∷ xs) (suc k, x, below, at, p) = inr (some_from_any P xs (k, x, (let b : k < length xs = omega arith in b), at, p))

pub any_from_some : {X : Type 0} (P : X → Type 0) (xs : List X) → SomeOf P xs → Any P xs
any_from_some P [] h = absurd h
any_from_some P (y ∷ xs) (inl p) = (0, y, omega arith, refl, p)
any_from_some P (y ∷ xs) (inr h) =
    let rest = any_from_some P xs h in (suc rest.0, rest.1, (let b : rest.0 < length xs = rest.2 in omega arith), rest.3, rest.4)

pub any_same : {X : Type 0} (P : X → Type 0) (xs : List X) → Any P xs ↔ SomeOf P xs
any_same P xs = (some_from_any P xs, any_from_some P xs)

pub iff_trans : {A B C : Type 0} → A ↔ B → B ↔ C → A ↔ C
iff_trans f g = ((λ a. g.0 (f.0 a)), (λ c. f.1 (g.1 c)))

pub some_weaker : {X : Type 0} (P Q : X → Type 0) → ((x : X) → P x → Q x) → (xs : List X) → SomeOf P xs → SomeOf Q xs
some_weaker P Q on [] h = h
some_weaker P Q on (x ∷ xs) (inl p) = inl (on x p)
some_weaker P Q on (x ∷ xs) (inr h) = inr (some_weaker P Q on xs h)

pub some_same : {X : Type 0} (P Q : X → Type 0) → ((x : X) → P x ↔ Q x) → (xs : List X) → SomeOf P xs ↔ SomeOf Q xs
some_same P Q same xs = (some_weaker P Q (λ x. (same x).0) xs, some_weaker Q P (λ x. (same x).1) xs)

pub some_append : {X : Type 0} (P : X → Type 0) (xs ys : List X) → SomeOf P (xs ++ ys) ↔ (SomeOf P xs ⊎ SomeOf P ys)
some_append P [] ys = ((λ h. inr h), (λ h. elim h [ inl none ↦ absurd none | inr some ↦ some ]))
some_append P (x ∷ xs) ys =
    let rest = some_append P xs ys in (
      λ h. elim h [ inl p ↦ inl (inl p) | inr later ↦ elim (rest.0 later) [ inl some ↦ inl (inr some) | inr some ↦ inr some ] ],
      λ h. elim h [ inl first ↦ elim first [ inl p ↦ inl p | inr some ↦ inr (rest.1 (inl some)) ] | inr some ↦ inr (rest.1 (inr some)) ],
    )

-- some element of the joined lists is an element of some of them
pub some_flat : {X Y : Type 0} (P : Y → Type 0) (f : X → List Y) (xs : List X) → SomeOf P (flat_map f xs) ↔ SomeOf (λ x. SomeOf P (f x)) xs
some_flat P f [] = ((λ h. h), (λ h. h))
some_flat P f (x ∷ xs) =
    let parts = some_append P (f x) (flat_map f xs) in
    let rest = some_flat P f xs in (
      λ h. elim (parts.0 h) [ inl some ↦ inl some | inr later ↦ inr (rest.0 later) ],
      λ h. elim h [ inl some ↦ parts.1 (inl some) | inr later ↦ parts.1 (inr (rest.1 later)) ],
    )

-- the elements that f makes of others
pub some_map : {X Y : Type 0} (P : Y → Type 0) (f : X → Y) (xs : List X) → SomeOf P (map f xs) ↔ SomeOf (λ x. P (f x)) xs
some_map P f [] = ((λ h. h), (λ h. h))
some_map P f (x ∷ xs) =
    let rest = some_map P f xs in (
      λ h. elim h [ inl p ↦ inl p | inr later ↦ inr (rest.0 later) ],
      λ h. elim h [ inl p ↦ inl p | inr later ↦ inr (rest.1 later) ],
    )

-- the elements that pass a test
pub some_filter : {X : Type 0} (P : X → Type 0) (test : X → Bool) (xs : List X) → SomeOf P (filter test xs) ↔ SomeOf (λ x. (test x ≡ true) × P x) xs
some_filter P test [] = ((λ h. h), (λ h. h))
some_filter P test (x ∷ xs) = by_test (test x) (some_filter P test xs)
  where
    by_test : (passes : Bool) → SomeOf P (filter test xs) ↔ SomeOf (λ x. (test x ≡ true) × P x) xs
        → SomeOf P (cond passes (x ∷ filter test xs) (filter test xs)) ↔ (((passes ≡ true) × P x) ⊎ SomeOf (λ x. (test x ≡ true) × P x) xs)
    by_test true rest = (
      λ h. elim h [ inl p ↦ inl (refl, p) | inr later ↦ inr (rest.0 later) ],
      λ h. elim h [ inl p ↦ inl p.1 | inr later ↦ inr (rest.1 later) ],
    )
    by_test false rest = (
      λ h. inr (rest.0 h),
      λ h. elim h [ inl p ↦ absurd (let is : false ≡ true = p.0 in let wrong : ⊥ = cc in wrong) | inr later ↦ rest.1 later ],
    )

-- a fact that does not speak of the element
pub some_fact : {X : Type 0} (P : X → Type 0) (F : Type 0) (xs : List X) → SomeOf (λ x. P x × F) xs ↔ (SomeOf P xs × F)
some_fact P F [] = ((λ h. absurd h), (λ h. h.0))
some_fact P F (x ∷ xs) =
    let rest = some_fact P F xs in (
      λ h. elim h [ inl both ↦ (inl both.0, both.1) | inr later ↦ (inr (rest.0 later).0, (rest.0 later).1) ],
      λ h. elim h.0 [ inl p ↦ inl (p, h.1) | inr later ↦ inr (rest.1 (later, h.1)) ],
    )

-- the numbers of elements do not matter
pub some_numbered : {X : Type 0} (P : X → Type 0) (n : ℕ) (xs : List X) → SomeOf (λ (p : ℕ × X). P p.1) (enumerate_from n xs) ↔ SomeOf P xs
some_numbered P n [] = ((λ h. h), (λ h. h))
some_numbered P n (x ∷ xs) =
    let rest = some_numbered P (n + 1) xs in (
      λ h. elim h [ inl p ↦ inl p | inr later ↦ inr (rest.0 later) ],
      λ h. elim h [ inl p ↦ inl p | inr later ↦ inr (rest.1 later) ],
    )

-- some element with this number is the one at this place
pub at_numbered : {X : Type 0} (P : X → Type 0) (d : X) (level n : ℕ) (xs : List X)
    → SomeOf (λ (p : ℕ × X). P p.1 × (p.0 ≡ level)) (enumerate_from n xs) → (k : ℕ) × (n + k ≡ level) × P (get_or xs k d)
at_numbered P d level n [] h = absurd h
at_numbered P d level n (x ∷ xs) (inl (p, is)) = (0, omega arith, p)
at_numbered P d level n (x ∷ xs) (inr later) =
    let rest = at_numbered P d level (n + 1) xs later in (suc rest.0, (let is : (n + 1) + rest.0 ≡ level = rest.1 in omega arith), rest.2)

pub numbered_at : {X : Type 0} (P : X → Type 0) (d : X) (level n k : ℕ) (xs : List X) → ¬ P d → n + k ≡ level → P (get_or xs k d)
    → SomeOf (λ (p : ℕ × X). P p.1 × (p.0 ≡ level)) (enumerate_from n xs)
numbered_at P d level n k [] none is p = absurd (none p)
numbered_at P d level n zero (x ∷ xs) none is p = inl (p, omega arith)
numbered_at P d level n (suc k) (x ∷ xs) none is p = inr (numbered_at P d level (n + 1) k xs none (omega arith) p)

pub right_same : {A B C : Type 0} → B ↔ C → (A ⊎ B) ↔ (A ⊎ C)
right_same same = (
  λ h. elim h [ inl a ↦ inl a | inr b ↦ inr (same.0 b) ],
  λ h. elim h [ inl a ↦ inl a | inr c ↦ inr (same.1 c) ],
)
