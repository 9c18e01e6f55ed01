-- Members of lists, and tests of all of them.
use Rattle.std.proofs.Common.{◌≡◌, ◌⊎◌, inl, inr, ◌<◌, ◌+◌, ℕ, zero, suc, List, [], ◌∷◌, ◌++◌, All, Bool, true, false, ◌||◌, arith, get_or, length, map, refl, sym, ap, ◌∙◌, subst, take}
use Rattle.std.proofs.lemmas.List.{get_or-map, take_more}
use Rattle.std.specs.List.{Any, Contains}

-- neither is true
pub neither : (a b : Bool) → (a || b) ≡ false → (a ≡ false) × (b ≡ false)
neither true b free = absurd (let wrong : ⊥ = cc in wrong)
neither false b free = (refl, free)

pub neither_is : (a b : Bool) → a ≡ false → b ≡ false → (a || b) ≡ false
neither_is true b x y = absurd (let wrong : ⊥ = cc in wrong)
neither_is false b x y = y

-- some member has the property
pub some_in : {X : Type 0} (P : X → Type 0) (xs : List X) → Any P xs → (x : X) × Contains xs x × P x
some_in P xs (k, x, below, at, p) = (x, (k, below, at), p)

pub in_some : {X : Type 0} (P : X → Type 0) (xs : List X) (x : X) → Contains xs x → P x → Any P xs
in_some P xs x (k, below, at) p = (k, x, below, at, p)

-- the first elements and one more
pub taken_more : {X : Type 0} (xs : List X) (i : ℕ) (x : X) → i < length xs → x ≡ get_or xs i x → take (i + 1) xs ≡ take i xs ++ (x ∷ [])
taken_more {X} xs i x below is = take_more xs i x below ∙ ap (λ (y : X). take i xs ++ (y ∷ [])) (sym is)

-- some element of a list that is not empty
pub none_of_none : {X : Type 0} (P : X → Type 0) → ¬ Any P []
none_of_none P (k, x, below, at, p) = omega (arith, below)

pub some_first : {X : Type 0} (P : X → Type 0) (x : X) (xs : List X) → P x → Any P (x ∷ xs)
some_first P x xs p = (0, x, omega arith, refl, p)

pub some_behind : {X : Type 0} (P : X → Type 0) (x : X) (xs : List X) → Any P xs → Any P (x ∷ xs)
some_behind P x xs (k, y, below, at, p) = (suc k, y, omega (arith, below), at, p)

pub some_cases : {X : Type 0} (P : X → Type 0) (x : X) (xs : List X) → Any P (x ∷ xs) → P x ⊎ Any P xs
some_cases P x xs (zero, y, below, at, p) = inl (subst P (sym at) p)
some_cases P x xs (suc k, y, below, at, p) = inr (k, y, omega (arith, below), at, p)

-- of one more element behind
pub some_pushed : {X : Type 0} (P : X → Type 0) (xs : List X) (x : X) → Any P (xs ++ x ∷ []) → Any P xs ⊎ P x
some_pushed P [] x some = elim (some_cases P x [] some) [ inl p ↦ inr p | inr none ↦ absurd (none_of_none P none) ]
some_pushed P (y ∷ xs) x some = elim (some_cases P y (xs ++ x ∷ []) some) [
  | inl p ↦ inl (some_first P y xs p)
  | inr rest ↦ elim (some_pushed P xs x rest) [ inl p ↦ inl (some_behind P y xs p) | inr p ↦ inr p ]
]

pub push_some : {X : Type 0} (P : X → Type 0) (xs : List X) (x : X) → Any P xs ⊎ P x → Any P (xs ++ x ∷ [])
push_some P [] x (inl some) = absurd (none_of_none P some)
push_some P [] x (inr p) = some_first P x [] p
push_some P (y ∷ xs) x (inl some) = elim (some_cases P y xs some) [
  | inl p ↦ some_first P y (xs ++ x ∷ []) p
  | inr rest ↦ some_behind P y (xs ++ x ∷ []) (push_some P xs x (inl rest))
]
push_some P (y ∷ xs) x (inr p) = some_behind P y (xs ++ x ∷ []) (push_some P xs x (inr p))

pub all_pushed : {X : Type 0} (P : X → Type 0) (xs : List X) (x : X) → All P (xs ++ x ∷ []) → All P xs × P x
all_pushed P [] x all = (λ k d below. absurd (let wrong : ⊥ = omega (arith, below) in wrong), all 0 x (omega arith))
all_pushed P (y ∷ xs) x all =
    let rest = all_pushed P xs x (λ k d below. all (suc k) d (omega (arith, below))) in (
      λ k d below. first k d below rest.0,
      rest.1,
    )
  where
    first : (k : ℕ) → (d : _) → k < length (y ∷ xs) → All P xs → P (get_or (y ∷ xs) k d)
    first zero d below more = all 0 d (omega arith)
    first (suc k) d below more = more k d (omega (arith, below))

pub all_front : {X : Type 0} (P : X → Type 0) (x : X) (xs : List X) → P x → All P xs → All P (x ∷ xs)
all_front P x xs first all zero d below = first
all_front P x xs first all (suc k) d below = all k d (omega (arith, below))

pub push_all : {X : Type 0} (P : X → Type 0) (xs : List X) (x : X) → All P xs → P x → All P (xs ++ x ∷ [])
push_all P [] x all p zero d below = p
push_all P [] x all p (suc k) d below = absurd (let wrong : ⊥ = omega (arith, below) in wrong)
push_all P (y ∷ xs) x all p zero d below = all 0 d (omega arith)
push_all P (y ∷ xs) x all p (suc k) d below = push_all P xs x (λ j e lower. all (suc j) e (omega (arith, lower))) p k d (omega (arith, below))

-- an element of a mapped list
pub at_map : {V D : Type 0} (f : V → D) (vs : List V) (i : ℕ) (v : V) → i < length vs → v ≡ get_or vs i v → f v ≡ get_or (map f vs) i (f v)
at_map f vs i v below is = ap f is ∙ sym (get_or-map f vs i v (f v) below)
