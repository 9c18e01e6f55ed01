-- Members of lists, and groups of patterns as lists of them.
use Rattle.std.proofs.Common.{◌≡◌, ◌⊎◌, inl, inr, ◌↔◌, ℕ, List, [], ◌∷◌, Option, None, Some, Any, Contains, chars, filter_map, flat_map, refl, sym, ap, ◌∙◌, subst, arith}
use Rattle.std.proofs.lemmas.List.Elements.{Contains-append_cases, Contains-append_right, Contains-push_cases}
use Rattle.std.specs.List.{AllZip, cons_option}
use Rattle.iam_text.specs.declared.draft.Piece.{Piece}
use Rattle.iam_kinds.specs.Kinds.{GroupMatches}
use Rattle.iam_context.specs.Context.{ContextValue}
use Rattle.iam_context.specs.Resolve.{resolved}
use Rattle.iam_match.specs.Statement.{TextMatches}
use Rattle.iam_decision.specs.Matched.{Selects}

pub none_in : {X : Type 0} (x : X) → ¬ Contains [] x
none_in x (k, below, is) = omega arith

pub first_in : {X : Type 0} (x : X) (xs : List X) → Contains (x ∷ xs) x
first_in x xs = (0, (omega arith), refl)

pub later_in : {X : Type 0} (x : X) (xs : List X) (y : X) → Contains xs y → Contains (x ∷ xs) y
later_in x xs y in' = Contains-append_right (x ∷ []) xs y in'

pub cases_in : {X : Type 0} (x : X) (xs : List X) (y : X) → Contains (x ∷ xs) y → (x ≡ y) ⊎ Contains xs y
cases_in x xs y in' = elim (Contains-append_cases (x ∷ []) xs y in') [
  | inl one ↦ elim (Contains-push_cases [] x y one) [ inl none ↦ absurd (none_in y none) | inr is ↦ inl is ]
  | inr later ↦ inr later
]

-- some member has the property
pub some_in : {X : Type 0} (P : X → Type 0) (xs : List X) → Any P xs → (x : X) × Contains xs x × P x
some_in P xs (k, x, below, at, p) = (x, (k, below, at), p)

pub in_some : {X : Type 0} (P : X → Type 0) (xs : List X) (x : X) → Contains xs x → P x → Any P xs
in_some P xs x (k, below, at) p = (k, x, below, at, p)

-- what h gives of a member
pub given_in : {X Y : Type 0} (h : X → Option Y) (xs : List X) (x : X) (y : Y) → Contains xs x → h x ≡ Some y → Contains (filter_map h xs) y
given_in h [] x y in' is = absurd (none_in x in')
given_in {X} {Y} h (z ∷ xs) x y in' is = elim (cases_in z xs x in') [
  | inl same ↦ subst (λ (o : Option Y). Contains (cons_option o (filter_map h xs)) y) (sym (ap h same ∙ is)) (first_in y (filter_map h xs))
  | inr later ↦ behind (h z) (filter_map h xs) (given_in h xs x y later is)
]
  where
    behind : (o : Option Y) (ys : List Y) → Contains ys y → Contains (cons_option o ys) y
    behind None ys inside = inside
    behind (Some w) ys inside = later_in w ys y inside

pub in_given : {X Y : Type 0} (h : X → Option Y) (xs : List X) (y : Y) → Contains (filter_map h xs) y → (x : X) × Contains xs x × (h x ≡ Some y)
in_given h [] y in' = absurd (none_in y in')
in_given {X} {Y} h (x ∷ xs) y in' = here (in_given h xs y) (h x) refl in'
  where
    here : (Contains (filter_map h xs) y → (z : X) × Contains xs z × (h z ≡ Some y)) → (o : Option Y) → h x ≡ o
        → Contains (cons_option o (filter_map h xs)) y → (z : X) × Contains (x ∷ xs) z × (h z ≡ Some y)
    here rest None is inside = let (z, in_rest, gives) = rest inside in (z, later_in x xs z in_rest, gives)
    here rest (Some w) is inside = elim (cases_in w (filter_map h xs) y inside) [
      | inl same ↦ (x, first_in x xs, is ∙ ap Some same)
      | inr later ↦ let (z, in_rest, gives) = rest later in (z, later_in x xs z in_rest, gives)
    ]

pub in_flat : {X Y : Type 0} (f : X → List Y) (xs : List X) (y : Y) → Contains (flat_map f xs) y → (x : X) × Contains xs x × Contains (f x) y
in_flat f [] y in' = absurd (none_in y in')
in_flat f (x ∷ xs) y in' = elim (Contains-append_cases (f x) (flat_map f xs) y in') [
  | inl here ↦ (x, first_in x xs, here)
  | inr later ↦ let (z, inside, there) = in_flat f xs y later in (z, later_in x xs z inside, there)
]

-- what is chosen are the members that have the property
pub chosen_in : {X : Type 0} (P : X → Type 0) (xs chosen : List X) (x : X) → Selects P xs chosen → Contains chosen x → Contains xs x × P x
chosen_in {X} P [] chosen x none in' = absurd (none_in x (subst (λ (z : List X). Contains z x) none in'))
chosen_in {X} P (y ∷ xs) chosen x (inl (p, (rest, is, more))) in' = elim (cases_in y rest x (subst (λ (z : List X). Contains z x) is in')) [
  | inl same ↦ (subst (Contains (y ∷ xs)) same (first_in y xs), subst P same p)
  | inr later ↦ let (inside, holds) = chosen_in P xs rest x more later in (later_in y xs x inside, holds)
]
chosen_in P (y ∷ xs) chosen x (inr (not, more)) in' = let (inside, holds) = chosen_in P xs chosen x more in' in (later_in y xs x inside, holds)

pub in_chosen : {X : Type 0} (P : X → Type 0) (xs chosen : List X) (x : X) → Selects P xs chosen → Contains xs x → P x → Contains chosen x
in_chosen P [] chosen x none in' p = absurd (none_in x in')
in_chosen {X} P (y ∷ xs) chosen x (inl (holds, (rest, is, more))) in' p =
    subst (λ (z : List X). Contains z x) (sym is) (elim (cases_in y xs x in') [
      | inl same ↦ subst (Contains (y ∷ rest)) same (first_in y rest)
      | inr later ↦ later_in y rest x (in_chosen P xs rest x more later p)
    ])
in_chosen P (y ∷ xs) chosen x (inr (not, more)) in' p = elim (cases_in y xs x in') [
  | inl same ↦ absurd (not (subst P (sym same) p))
  | inr later ↦ in_chosen P xs chosen x more later p
]

-- members of two lists that fit pair by pair
pub left_fits : {X Y : Type 0} (R : X → Y → Type 0) (xs : List X) (ys : List Y) (x : X) → AllZip R xs ys → Contains xs x → (y : Y) × Contains ys y × R x y
left_fits R [] ys x fit in' = absurd (none_in x in')
left_fits R (z ∷ xs) [] x fit in' = absurd fit
left_fits {X} {Y} R (z ∷ xs) (w ∷ ys) x fit in' = elim (cases_in z xs x in') [
  | inl same ↦ (w, first_in w ys, subst (λ (v : X). R v w) same fit.0)
  | inr later ↦ let (y, inside, r) = left_fits R xs ys x fit.1 later in (y, later_in w ys y inside, r)
]

pub right_fits : {X Y : Type 0} (R : X → Y → Type 0) (xs : List X) (ys : List Y) (y : Y) → AllZip R xs ys → Contains ys y → (x : X) × Contains xs x × R x y
right_fits R xs [] y fit in' = absurd (none_in y in')
right_fits R [] (w ∷ ys) y fit in' = absurd fit
right_fits {X} {Y} R (z ∷ xs) (w ∷ ys) y fit in' = elim (cases_in w ys y in') [
  | inl same ↦ (z, first_in z xs, subst (λ (v : Y). R z v) same fit.0)
  | inr later ↦ let (x, inside, r) = right_fits R xs ys y fit.1 later in (x, later_in z xs x inside, r)
]

-- ---- groups
-- the patterns that texts become match where some text does
pub group_of_texts : (context : ContextValue) (texts : List (List Piece)) (text : List ℕ)
    → GroupMatches (filter_map (resolved context) texts) (chars text) ↔ Any (TextMatches context text) texts
group_of_texts context texts text = (
  λ (pattern, in', matches).
      let (pieces, inside, is) = in_given (resolved context) texts pattern in' in
      in_some (TextMatches context text) texts pieces inside (pattern, is, matches),
  λ some.
      let (pieces, inside, (pattern, is, matches)) = some_in (TextMatches context text) texts some in
      (pattern, given_in (resolved context) texts pieces pattern inside is, matches),
)
