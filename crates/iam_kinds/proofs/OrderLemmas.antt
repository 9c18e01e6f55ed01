-- Texts in order: the shorter before the longer, of equally long ones by code points.
use Rattle.std.proofs.Common.{◌≡◌, ◌⊎◌, inl, inr, ℕ, ◌<◌, ◌≤◌, ◌+◌, List, [], ◌∷◌, ◌++◌, length, refl, ap, sym, ◌∙◌, subst, arith, length-append}
use Rattle.iam_kinds.specs.Kinds.{IsBefore, IsLess}
use Rattle.iam_kinds.specs.Walk.{IsNotAfter}
use Rattle.iam_kinds.proofs.PlaceLemmas.{le_cases}

pub less_on : (u v : List ℕ) (c d : ℕ) → length u ≡ length v → IsLess u v → IsLess (u ++ (c ∷ [])) (v ++ (d ∷ []))
less_on [] v c d same less = absurd less
less_on (x ∷ u) [] c d same less = absurd less
less_on (x ∷ u) (y ∷ v) c d same (inl less) = inl less
less_on (x ∷ u) (y ∷ v) c d same (inr r) = inr (r.0, less_on u v c d (omega (arith, same)) r.1)

pub less_last : (u : List ℕ) (c d : ℕ) → c < d → IsLess (u ++ (c ∷ [])) (u ++ (d ∷ []))
less_last [] c d less = inl less
less_last (x ∷ u) c d less = inr (refl, less_last u c d less)

pub less_trans : (a b c : List ℕ) → IsLess a b → IsLess b c → IsLess a c
less_trans [] b c l m = absurd l
less_trans (x ∷ a) [] c l m = absurd l
less_trans (x ∷ a) (y ∷ b) [] l m = absurd m
less_trans (x ∷ a) (y ∷ b) (z ∷ c) (inl l) (inl m) = inl (omega (arith, l, m))
less_trans (x ∷ a) (y ∷ b) (z ∷ c) (inl l) (inr m) = inl (let e : y ≡ z = m.0 in omega (arith, l, e))
less_trans (x ∷ a) (y ∷ b) (z ∷ c) (inr l) (inl m) = inl (let e : x ≡ y = l.0 in omega (arith, m, e))
less_trans (x ∷ a) (y ∷ b) (z ∷ c) (inr l) (inr m) = inr (l.0 ∙ m.0, less_trans a b c l.1 m.1)

pub before_trans : (a b c : List ℕ) → IsBefore a b → IsBefore b c → IsBefore a c
before_trans a b c (inl l) (inl m) = inl (omega (arith, l, m))
before_trans a b c (inl l) (inr m) = inl (let e : length b ≡ length c = m.0 in omega (arith, l, e))
before_trans a b c (inr l) (inl m) = inl (let e : length a ≡ length b = l.0 in omega (arith, m, e))
before_trans a b c (inr l) (inr m) = inr (l.0 ∙ m.0, less_trans a b c l.1 m.1)

pub before_length : (a b : List ℕ) → IsBefore a b → length a ≤ length b
before_length a b (inl l) = omega (arith, l)
before_length a b (inr l) = (let e : length a ≡ length b = l.0 in omega (arith, e))

pub longer : (u : List ℕ) (c : ℕ) → length (u ++ (c ∷ [])) ≡ length u + 1
longer u c = let e = length-append u (c ∷ []) in omega (arith, e)

-- what one letter more makes of texts in order
pub before_on : (u v : List ℕ) (c d : ℕ) → IsBefore u v → IsBefore (u ++ (c ∷ [])) (v ++ (d ∷ []))
before_on u v c d (inl l) = inl (omega (arith, l, longer u c, longer v d))
before_on u v c d (inr l) =
    let e : length u ≡ length v = l.0 in inr (omega (arith, e, longer u c, longer v d), less_on u v c d e l.1)

pub before_last : (u : List ℕ) (c d : ℕ) → c < d → IsBefore (u ++ (c ∷ [])) (u ++ (d ∷ []))
before_last u c d less = inr (omega (arith, longer u c, longer u d), less_last u c d less)

pub before_any : (u : List ℕ) (c : ℕ) → IsBefore [] (u ++ (c ∷ []))
before_any u c = inl (let e = longer u c in omega (arith, e))

-- ---- texts of which one is not after the other
pub not_after_length : (a b : List ℕ) → IsNotAfter a b → length a ≤ length b
not_after_length a b (inl e) = omega (arith, ap length e)
not_after_length a b (inr l) = before_length a b l

pub not_after_trans : (a b c : List ℕ) → IsNotAfter a b → IsNotAfter b c → IsNotAfter a c
not_after_trans a b c (inl e) l = subst (λ (t : List ℕ). IsNotAfter t c) (sym e) l
not_after_trans a b c (inr k) (inl e) = inr (subst (IsBefore a) e k)
not_after_trans a b c (inr k) (inr l) = inr (before_trans a b c k l)

pub less_not : (a : List ℕ) → ¬ IsLess a a
less_not [] l = l
less_not (c ∷ a) (inl l) = absurd (omega (arith, l))
less_not (c ∷ a) (inr l) = less_not a l.1

pub before_not : (a : List ℕ) → ¬ IsBefore a a
before_not a (inl l) = absurd (omega (arith, l))
before_not a (inr l) = less_not a l.1

pub not_before : (a b : List ℕ) → IsNotAfter a b → ¬ IsBefore b a
not_before a b (inl e) l = before_not a (subst (λ (t : List ℕ). IsBefore t a) (sym e) l)
not_before a b (inr k) l = before_not a (before_trans a b a k l)

-- of two texts one is before the other, or they are the same
pub less_cases : (a b : List ℕ) → length a ≡ length b → (a ≡ b) ⊎ (IsLess a b ⊎ IsLess b a)
less_cases [] [] same = inl refl
less_cases [] (d ∷ b) same = absurd (omega (arith, same))
less_cases (c ∷ a) [] same = absurd (omega (arith, same))
less_cases (c ∷ a) (d ∷ b) same = elim (le_cases c d) [
  | inl l ↦ inr (inl (inl l))
  | inr high ↦ elim (le_cases d c) [
    | inl l ↦ inr (inr (inl l))
    | inr low ↦
        let e : c ≡ d = omega (arith, high, low) in
        elim (less_cases a b (omega (arith, same))) [
          | inl s ↦ inl (ap (λ x. x ∷ a) e ∙ ap (λ l. d ∷ l) s)
          | inr less ↦ inr (elim less [ inl l ↦ inl (inr (e, l)) | inr l ↦ inr (inr (sym e, l)) ])
        ]
  ]
]

pub neither_before : (a b : List ℕ) → (¬ IsBefore a b) → (¬ IsBefore b a) → a ≡ b
neither_before a b not_ab not_ba = elim (le_cases (length a) (length b)) [
  | inl l ↦ absurd (not_ab (inl l))
  | inr high ↦ elim (le_cases (length b) (length a)) [
    | inl l ↦ absurd (not_ba (inl l))
    | inr low ↦
        let same : length a ≡ length b = omega (arith, high, low) in
        elim (less_cases a b same) [
          | inl e ↦ e
          | inr less ↦ elim less [ inl l ↦ absurd (not_ab (inr (same, l))) | inr l ↦ absurd (not_ba (inr (sym same, l))) ]
        ]
  ]
]
