-- The first element of a list of which something holds.
use Rattle.std.proofs.Common.{◌≡◌, inl, inr, ℕ, ◌+◌, ◌<◌, List, [], ◌∷◌, ◌++◌, map, length, drop, get_or, Bool, true, false, not, cond, Option, Some, None, option_map, refl, sym, ap, ◌∙◌, subst}
use Rattle.std.specs.List.{AllByRecursion, AllZip, position_from}
use Rattle.std.specs.Prelude.{IsTrue}
use Rattle.iam_world.specs.Code.ViewFault.{FindsFirst}
use Rattle.iam_shape.specs.First.{IsFirst, IsFirstAt, with_paths}
use Rattle.iam_shape.specs.declared.path.Path.{Path}
use Rattle.iam_world.proofs.Walks.{drop_at}

-- where it holds of none, there is no first
pub none_first : {X : Type 0} (P : X → Type 0) (xs : List X) (x : X) → AllByRecursion (λ y. ¬ P y) xs → IsFirst P xs x → ⊥
none_first P [] x none first = first
none_first P (y ∷ ys) x none (inl here) = none.0 here.0
none_first P (y ∷ ys) x none (inr later) = none_first P ys x none.1 later.1

pub none_at : {X : Type 0} (P : X → Type 0) (xs : List (Path × X)) (path : Path) → AllByRecursion (λ y. ¬ P y.1) xs → IsFirstAt P xs path → ⊥
none_at {X} P xs path none (x, first) = none_first (λ (y : Path × X). P y.1) xs (path, x) none first

-- there is one first
pub one_first : {X : Type 0} (P : X → Type 0) (xs : List X) (x y : X) → IsFirst P xs x → IsFirst P xs y → x ≡ y
one_first P [] x y one two = absurd one
one_first P (z ∷ zs) x y (inl one) (inl two) = one.1 ∙ sym two.1
one_first P (z ∷ zs) x y (inl one) (inr two) = absurd (two.0 one.0)
one_first P (z ∷ zs) x y (inr one) (inl two) = absurd (one.0 two.0)
one_first P (z ∷ zs) x y (inr one) (inr two) = one_first P zs x y one.1 two.1

pub one_at : {X : Type 0} (P : X → Type 0) (xs : List (Path × X)) (one two : Path) → IsFirstAt P xs one → IsFirstAt P xs two → one ≡ two
one_at {X} P xs one two (x, first) (y, second) =
    ap (λ (z : Path × X). z.0) (one_first (λ (z : Path × X). P z.1) xs (one, x) (two, y) first second)

-- the first of two lists is that of the first, or else that of the second
pub first_here : {X : Type 0} (P : X → Type 0) (front back : List X) (x : X) → IsFirst P front x → IsFirst P (front ++ back) x
first_here P [] back x first = absurd first
first_here P (y ∷ front) back x (inl here) = inl here
first_here P (y ∷ front) back x (inr later) = inr (later.0, first_here P front back x later.1)

pub first_later : {X : Type 0} (P : X → Type 0) (front back : List X) (x : X) → AllByRecursion (λ y. ¬ P y) front → IsFirst P back x → IsFirst P (front ++ back) x
first_later P [] back x none first = first
first_later P (y ∷ front) back x none first = inr (none.0, first_later P front back x none.1 first)

pub none_append : {X : Type 0} (P : X → Type 0) (front back : List X) → AllByRecursion P front → AllByRecursion P back → AllByRecursion P (front ++ back)
none_append P [] back one two = two
none_append P (x ∷ front) back one two = (one.0, none_append P front back one.1 two)

-- ---- along a list of the document

-- the first of the elements from i on: that at i, or else one behind it
pub at_here : {V X : Type 0} (P : X → Type 0) (at : ℕ → Path) (f : V → X) (vs : List V) (i : ℕ) (v : V) → i < length vs → v ≡ get_or vs i v → P (f v)
    → IsFirstAt P (with_paths at i (map f (drop i vs))) (at i)
at_here P at f vs i v below is holds =
    subst (λ xs. IsFirstAt P (with_paths at i xs) (at i)) (sym (drop_at f vs i v below is)) (f v, inl (holds, refl))

pub at_later : {V X : Type 0} (P : X → Type 0) (at : ℕ → Path) (f : V → X) (vs : List V) (i : ℕ) (v : V) → i < length vs → v ≡ get_or vs i v → (¬ P (f v))
    → (path : Path) → IsFirstAt P (with_paths at (i + 1) (map f (drop (i + 1) vs))) path → IsFirstAt P (with_paths at i (map f (drop i vs))) path
at_later P at f vs i v below is fails path later =
    subst (λ xs. IsFirstAt P (with_paths at i xs) path) (sym (drop_at f vs i v below is)) (later.0, inr (fails, later.1))

-- it holds of no element of a list that is read by something else
pub none_with_paths : {X V : Type 0} (R : X → V → Type 0) (P : X → Type 0) → ((x : X) (v : V) → R x v → ¬ P x) → (at : ℕ → Path) (i : ℕ) (xs : List X) (vs : List V)
    → AllZip R xs vs → AllByRecursion (λ x. ¬ P x.1) (with_paths at i xs)
none_with_paths R P step at i [] [] zip = tt
none_with_paths R P step at i [] (v ∷ vs) zip = absurd zip
none_with_paths R P step at i (x ∷ xs) [] zip = absurd zip
none_with_paths R P step at i (x ∷ xs) (v ∷ vs) zip = (step x v zip.0, none_with_paths R P step at (i + 1) xs vs zip.1)

-- a test along the one list finds the first element of the other
pub found_by : {X V : Type 0} (R : X → V → Type 0) (P : X → Type 0) (test : V → Bool) → ((x : X) (v : V) → R x v → test v ≡ true → P x)
    → ((x : X) (v : V) → R x v → test v ≡ false → ¬ P x) → (at : ℕ → Path) (i : ℕ) (xs : List X) (vs : List V) → AllZip R xs vs
    → FindsFirst P (with_paths at i xs) (option_map at (position_from test i vs))
found_by R P test holds fails at i [] [] zip = tt
found_by R P test holds fails at i [] (v ∷ vs) zip = absurd zip
found_by R P test holds fails at i (x ∷ xs) [] zip = absurd zip
found_by {X} R P test holds fails at i (x ∷ xs) (v ∷ vs) zip = go (test v) refl (position_from test (i + 1) vs) (found_by R P test holds fails at (i + 1) xs vs zip.1)
  where
    later : (o : Option ℕ) → (¬ P x) → FindsFirst P (with_paths at (i + 1) xs) (option_map at o) → FindsFirst P (with_paths at i (x ∷ xs)) (option_map at o)
    later None fails none = (fails, none)
    later (Some n) fails first = (first.0, inr (fails, first.1))

    go : (b : Bool) → test v ≡ b → (o : Option ℕ) → FindsFirst P (with_paths at (i + 1) xs) (option_map at o)
        → FindsFirst P (with_paths at i (x ∷ xs)) (option_map at (cond b (Some i) o))
    go true is o rest = (x, inl (holds x v zip.0 is, refl))
    go false is o rest = later o (fails x v zip.0 is) rest

-- what the code holds, as what it says
pub said_zip : {V X : Type 0} (f : V → X) (vs : List V) → AllZip (λ x v. x ≡ f v) (map f vs) vs
said_zip f [] = tt
said_zip f (v ∷ vs) = (refl, said_zip f vs)

-- a test of what the code holds finds the first element that fails it
pub found_said : {V X : Type 0} (test : X → Bool) (f : V → X) (at : ℕ → Path) (vs : List V)
    → FindsFirst (λ x. ¬ IsTrue (test x)) (with_paths at 0 (map f vs)) (option_map at (position_from (λ v. not (test (f v))) 0 vs))
found_said {V} {X} test f at vs =
    found_by (λ x v. x ≡ f v) (λ x. ¬ IsTrue (test x)) (λ v. not (test (f v))) (λ x v is e. fails x v is (test (f v)) refl e) (λ x v is e off. off (ap test is ∙ passes (test (f v)) e))
    at 0 (map f vs) vs (said_zip f vs)
  where
    passes : (b : Bool) → not b ≡ false → b ≡ true
    passes true e = refl
    passes false e = cc

    fails : (x : X) (v : V) → x ≡ f v → (b : Bool) → test (f v) ≡ b → not b ≡ true → ¬ IsTrue (test x)
    fails x v is true at e on = cc
    fails x v is false at e on = let wrong : false ≡ true = sym at ∙ sym (ap test is) ∙ on in cc
