-- Bad values among the keys of a condition.
use Rattle.std.proofs.Common.{◌≡◌, ◌⊎◌, inl, inr, ℕ, suc, zero, List, [], ◌∷◌, ◌++◌, Option, Some, None, map, refl, sym, subst, arith}
use Rattle.std.specs.List.{Any, flat_map}
use Rattle.std.specs.Option.{option_map_or}
use Rattle.serde_json.specs.Data.{Data, null, boolean, number, string, array, object}
use Rattle.serde_json.specs.Find.{as_str}
use Rattle.iam_json.specs.Scalar.{scalar_text}
use Rattle.iam_condition.specs.declared.operator.Operator.{Operator}
use Rattle.iam_condition.specs.Code.Walks.{AnyOf, IsBadMember}
use Rattle.iam_condition.specs.Code.Walks.{given}
use Rattle.iam_condition.specs.Condition.{Given, HasBadValue, IsBadValue, given_in, given_under, members_of, values_under}
use Rattle.iam_condition.specs.Operator.{operator_of}

-- the two ways to say that it is so of some element
pub any_of : {X : Type 0} (P : X → Type 0) (xs : List X) → Any P xs → AnyOf P xs
any_of P [] (k, x, below, is, p) = absurd (omega arith)
any_of P (y ∷ xs) (zero, x, below, is, p) = inl (subst P (sym is) p)
any_of P (y ∷ xs) (suc k, x, below, is, p) = inr (any_of P xs (k, x, omega arith, is, p))

pub of_any : {X : Type 0} (P : X → Type 0) (xs : List X) → AnyOf P xs → Any P xs
of_any P [] never = absurd never
of_any P (x ∷ xs) one = elim one [
  | inl p ↦ (0, x, omega arith, refl, p)
  | inr p ↦ let r = of_any P xs p in (suc r.0, r.1, omega (arith, r.2), r.3, r.4)
]

weaker : {X : Type 0} (P Q : X → Type 0) → ((x : X) → P x → Q x) → (xs : List X) → AnyOf P xs → AnyOf Q xs
weaker P Q f [] never = never
weaker P Q f (x ∷ xs) one = elim one [ inl p ↦ inl (f x p) | inr p ↦ inr (weaker P Q f xs p) ]

of_map : {X Y : Type 0} (f : X → Y) (P : Y → Type 0) (xs : List X) → AnyOf (λ x. P (f x)) xs → AnyOf P (map f xs)
of_map f P [] never = never
of_map f P (x ∷ xs) one = elim one [ inl p ↦ inl p | inr p ↦ inr (of_map f P xs p) ]

from_map : {X Y : Type 0} (f : X → Y) (P : Y → Type 0) (xs : List X) → AnyOf P (map f xs) → AnyOf (λ x. P (f x)) xs
from_map f P [] never = never
from_map f P (x ∷ xs) one = elim one [ inl p ↦ inl p | inr p ↦ inr (from_map f P xs p) ]

left : {X : Type 0} (P : X → Type 0) (xs ys : List X) → AnyOf P xs → AnyOf P (xs ++ ys)
left P [] ys never = absurd never
left P (x ∷ xs) ys one = elim one [ inl p ↦ inl p | inr p ↦ inr (left P xs ys p) ]

right : {X : Type 0} (P : X → Type 0) (xs ys : List X) → AnyOf P ys → AnyOf P (xs ++ ys)
right P [] ys p = p
right P (x ∷ xs) ys p = inr (right P xs ys p)

parts : {X : Type 0} (P : X → Type 0) (xs ys : List X) → AnyOf P (xs ++ ys) → AnyOf P xs ⊎ AnyOf P ys
parts P [] ys p = inr p
parts P (x ∷ xs) ys one = elim one [
  | inl p ↦ inl (inl p)
  | inr p ↦ elim (parts P xs ys p) [ inl q ↦ inl (inr q) | inr q ↦ inr q ]
]

-- a key with a bad value
abbrev pub IsBadGiven : Given → Type 0
IsBadGiven g = AnyOf (IsBadValue g.operator.base) (values_under g.value)

bad_under : (m : List ℕ × Data) → IsBadMember m → AnyOf IsBadGiven (given_under m)
bad_under m (operator, is, one) = rw is (of_map (given operator) IsBadGiven (members_of m.1) one)

under_bad : (m : List ℕ × Data) → AnyOf IsBadGiven (given_under m) → IsBadMember m
under_bad m one = go (operator_of m.0) refl one
  where
    go : (o : Option Operator) → operator_of m.0 ≡ o → AnyOf IsBadGiven (option_map_or (λ operator. map (given operator) (members_of m.1)) o []) → IsBadMember m
    go None is never = absurd never
    go (Some operator) is one = (operator, is, from_map (given operator) IsBadGiven (members_of m.1) one)

members_bad : (ms : List (List ℕ × Data)) → AnyOf IsBadMember ms → AnyOf IsBadGiven (flat_map given_under ms)
members_bad [] never = never
members_bad (m ∷ ms) one = elim one [
  | inl p ↦ left IsBadGiven (given_under m) (flat_map given_under ms) (bad_under m p)
  | inr p ↦ right IsBadGiven (given_under m) (flat_map given_under ms) (members_bad ms p)
]

bad_members : (ms : List (List ℕ × Data)) → AnyOf IsBadGiven (flat_map given_under ms) → AnyOf IsBadMember ms
bad_members [] never = never
bad_members (m ∷ ms) one = elim (parts IsBadGiven (given_under m) (flat_map given_under ms) one) [
  | inl p ↦ inl (under_bad m p)
  | inr p ↦ inr (bad_members ms p)
]

abbrev HasBad : Given → Type 0
HasBad g = Any (IsBadValue g.operator.base) (values_under g.value)

pub given_bad : (d : Data) → AnyOf IsBadGiven (given_in d) → HasBadValue d
given_bad d one =
    of_any HasBad (given_in d) (weaker IsBadGiven HasBad (λ g. of_any (IsBadValue g.operator.base) (values_under g.value)) (given_in d) one)

pub bad_to : (d : Data) → AnyOf IsBadMember (members_of d) → HasBadValue d
bad_to d one = given_bad d (members_bad (members_of d) one)

pub bad_from : (d : Data) → HasBadValue d → AnyOf IsBadMember (members_of d)
bad_from d one =
    bad_members (members_of d)
    (weaker HasBad IsBadGiven (λ g. any_of (IsBadValue g.operator.base) (values_under g.value)) (given_in d) (any_of HasBad (given_in d) one))

-- a text is read as itself
pub text_of : (d : Data) (text : List ℕ) → as_str d ≡ Some text → scalar_text d ≡ Some text
text_of (string t) text is = is
text_of null text is = cc
text_of (boolean b) text is = cc
text_of (number n) text is = cc
text_of (array ds) text is = cc
text_of (object ms) text is = cc
