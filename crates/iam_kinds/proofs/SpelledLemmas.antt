-- Letters that may follow a text, and texts that they spell.
use Rattle.std.proofs.Common.{◌≡◌, ◌⊎◌, inl, inr, ℕ, zero, suc, ◌<◌, true, false, List, [], ◌∷◌, ◌++◌, length, drop, take, get_or, refl, sym, ap, ◌∙◌, subst, arith}
use Rattle.std.specs.List.{Contains}
use Rattle.iam_kinds.specs.Letters.{IsAdded, IsFreeAt, is_free}
use Rattle.iam_kinds.specs.Spelled.{EachBehind, IsFirst, first_letters}
use Rattle.iam_kinds.specs.declared.grammar.Stage.{Stage}
use Rattle.std.proofs.lemmas.List.Elements.{Contains-append_left, Contains-append_right, Contains-push, Contains-push_cases}
use Rattle.iam_kinds.proofs.Members.{In, in_right, of_in}
use Rattle.iam_kinds.proofs.PlaceLemmas.{le_cases}

-- ---- the first of the characters
pub cut_at : (xs : List ℕ) (i d : ℕ) → i < length xs → xs ≡ take i xs ++ (get_or xs i d ∷ drop (suc i) xs)
cut_at [] i d below = absurd (omega (arith, below))
cut_at (x ∷ xs) zero d below = refl
cut_at (x ∷ xs) (suc i) d below = ap (λ l. x ∷ l) (cut_at xs i d (omega (arith, below)))

pub first_here : (holds : ℕ → Type 0) (items : List ℕ) (i c : ℕ) → items ≡ first_letters → i < length items → c ≡ get_or items i 0 → holds c
    → ((d : ℕ) → Contains (take i items) d → ¬ holds d) → IsFirst holds c
first_here holds items i c same below is has none = (
  has,
  inl (
    take i items,
    drop (suc i) items,
    sym same ∙ cut_at items i 0 below ∙ ap (λ x. take i items ++ (x ∷ drop (suc i) items)) (sym is),
    none,
  ),
)

pub not_free : (stage : Stage) (waited : List ℕ) (tails : List (List ℕ)) (c : ℕ) → is_free stage waited tails c ≡ false
    → ¬ IsFreeAt stage waited tails c
not_free stage waited tails c none (scalar, free) = absurd (let wrong : false ≡ true = sym none ∙ free in cc)

-- there is one
pub first_once : (holds : ℕ → Type 0) (a b : ℕ) → IsFirst holds a → IsFirst holds b → a ≡ b
first_once holds a b (has, inl (f, r, e, none)) (has', inl (g, s, e', none')) = at_front holds f r g s a b (sym e ∙ e') has has' none none'
  where
    at_front : (holds : ℕ → Type 0) (f r g s : List ℕ) (a b : ℕ) → f ++ (a ∷ r) ≡ g ++ (b ∷ s) → holds a → holds b
        → ((d : ℕ) → Contains f d → ¬ holds d) → ((d : ℕ) → Contains g d → ¬ holds d) → a ≡ b
    at_front holds [] r [] s a b e has has' none none' = cc
    at_front holds [] r (y ∷ g) s a b e has has' none none' = let same : y ≡ a = cc in absurd (none' a (of_in (y ∷ g) a (inl same)) has)
    at_front holds (x ∷ f) r [] s a b e has has' none none' = let same : x ≡ b = cc in absurd (none b (of_in (x ∷ f) b (inl same)) has')
    at_front holds (x ∷ f) r (y ∷ g) s a b e has has' none none' =
        let rest : f ++ (a ∷ r) ≡ g ++ (b ∷ s) = cc in
        at_front holds f r g s a b rest has has' (λ d h. none d (Contains-append_right (x ∷ []) f d h))
        (λ d h. none' d (Contains-append_right (y ∷ []) g d h))
first_once holds a b (has, inl (f, r, e, none)) (has', inr (no_first, least)) =
    absurd (no_first a (of_in first_letters a (subst (In a) (sym e) (in_right f (a ∷ r) a (inl refl)))) has)
first_once holds a b (has, inr (no_first, least)) (has', inl (f, r, e, none)) =
    absurd (no_first b (of_in first_letters b (subst (In b) (sym e) (in_right f (b ∷ r) b (inl refl)))) has')
first_once holds a b (has, inr (no_first, least)) (has', inr (no_other, least')) = elim (le_cases a b) [
  | inl less ↦ absurd (least' a less has)
  | inr high ↦ elim (le_cases b a) [
    | inl less ↦ absurd (least b less has')
    | inr low ↦ omega (arith, high, low)
  ]
]

pub first_same : (one other : ℕ → Type 0) (c : ℕ) → ((d : ℕ) → one d → other d) → ((d : ℕ) → other d → one d) → IsFirst one c
    → IsFirst other c
first_same one other c to back (has, inl (f, r, e, none)) = (to c has, inl (f, r, e, λ d h o. none d h (back d o)))
first_same one other c to back (has, inr (no_first, least)) =
    (to c has, inr (λ d h o. no_first d h (back d o), λ d less o. least d less (back d o)))

-- ---- letters that are added
pub added_one : (stage : Stage) (waited : List ℕ) (tails : List (List ℕ)) (old new : List ℕ) (letter : ℕ)
    → IsFirst (IsFreeAt stage waited tails) letter
    → new ≡ old ++ (letter ∷ []) → (c : ℕ)
    → (Contains new c → Contains old c ⊎ IsAdded stage waited tails c) × (Contains old c ⊎ IsAdded stage waited tails c → Contains new c)
added_one stage waited tails old new letter first more c =
    let there : (d : ℕ) → letter ≡ d → Contains new d =
    λ d e. subst (Contains new) e (subst (λ (l : List ℕ). Contains l letter) (sym more) (Contains-push old letter)) in (
      λ h. elim (Contains-push_cases old letter c (subst (λ (l : List ℕ). Contains l c) more h)) [
        | inl o ↦ inl o
        | inr e ↦ inr (inl (subst (IsFirst (IsFreeAt stage waited tails)) e first))
      ],
      λ h. elim h [
        | inl o ↦ subst (λ (l : List ℕ). Contains l c) (sym more) (Contains-append_left old (letter ∷ []) c o)
        | inr a ↦ elim a [
          | inl one ↦ there c (first_once (IsFreeAt stage waited tails) letter c first one)
          | inr none ↦ absurd (none.0 letter first.0)
        ]
      ],
    )

-- ---- texts of letters
pub no_end : (before : List ℕ) (c : ℕ) (rest : List ℕ) → [] ≡ before ++ (c ∷ rest) → ⊥
no_end [] c rest e = cc
no_end (d ∷ before) c rest e = cc

pub each_none : (holds : List ℕ → ℕ → Type 0) (text : List ℕ) → text ≡ [] → EachBehind holds text
each_none holds text empty = λ before rest c e. absurd (no_end before c rest (sym empty ∙ e))

-- where a text with one letter more is cut
pub cut_more : (text : List ℕ) (c : ℕ) (before rest : List ℕ) (d : ℕ) → text ++ (c ∷ []) ≡ before ++ (d ∷ rest)
    → ((text ≡ before) × (c ≡ d)) ⊎ ((more : List ℕ) × (text ≡ before ++ (d ∷ more)))
cut_more [] c [] rest d e = inl (refl, (let s : c ≡ d = cc in s))
cut_more [] c (x ∷ before) rest d e = absurd (no_end before d rest (let s : [] ≡ before ++ (d ∷ rest) = cc in s))
cut_more (x ∷ text) c [] rest d e = inr (text, (let s : x ≡ d = cc in ap (λ y. y ∷ text) s))
cut_more (x ∷ text) c (y ∷ before) rest d e =
    let same : x ≡ y = cc in
    let rest_is : text ++ (c ∷ []) ≡ before ++ (d ∷ rest) = cc in
    elim (cut_more text c before rest d rest_is) [
      | inl r ↦ inl (ap (λ z. z ∷ text) same ∙ ap (λ l. y ∷ l) r.0, r.1)
      | inr r ↦ inr (r.0, ap (λ z. z ∷ text) same ∙ ap (λ l. y ∷ l) r.1)
    ]

pub each_more : (holds : List ℕ → ℕ → Type 0) (text : List ℕ) (c : ℕ) → EachBehind holds text → holds text c
    → EachBehind holds (text ++ (c ∷ []))
each_more holds text c each last = λ before rest d e. elim (cut_more text c before rest d e) [
  | inl r ↦ subst (holds before) r.1 (subst (λ (t : List ℕ). holds t c) r.0 last)
  | inr r ↦ each before r.0 d r.1
]
