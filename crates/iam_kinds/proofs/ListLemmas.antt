-- Sets of lists.
use Rattle.std.proofs.Common.{◌≡◌, ◌↔◌, ◌⊎◌, not, inl, inr, ℕ, Bool, true, false, List, ◌∷◌, map, refl, sym, ap, subst}
use Rattle.std.proofs.Common.{Vec, Global}
use Rattle.std.specs.List.{Contains, list_any}
use Rattle.std.specs.Bool.{Decides, MatchBool}
use Rattle.std.specs.List.Sorted.{IsPermutation}
use Rattle.std.proofs.lemmas.List.Sorted.{Contains-permutation, IsPermutation-map, IsPermutation-sym}
use Rattle.std.specs.Cmp.Lexicographic.{pointwise}
use Rattle.std.proofs.lemmas.Bool.Decides.{Decides-eqb}
use Rattle.std.proofs.lemmas.Slice.Eq.{slice_eq-Decides}
use Rattle.std.proofs.Math.Dec.{eqb}
use Rattle.iam_kinds.proofs.Members.{In, in_of, of_in, in_map, from_map, in_any, from_any}

-- a list is found among those kept just where it is one of them
pub found : (keys : List (Vec ℕ Global)) (list : List ℕ) → Decides (list_any (λ key. pointwise eqb list key.items) keys) (Contains (map (λ key. key.items) keys) list)
found keys list = (
  λ e.
      let r = from_any (λ (key : Vec ℕ Global). pointwise eqb list key.items) keys e in
      let same : list ≡ r.0.items = (slice_eq-Decides Decides-eqb list r.0.items _ refl).0 r.2 in
      let P : List ℕ → Type 0 = λ l. In l (map (λ (key : Vec ℕ Global). key.items) keys) in
      of_in _ _ (subst P (sym same) (in_map (λ (key : Vec ℕ Global). key.items) keys r.0 r.1)),
  λ h.
      let r = from_map (λ (key : Vec ℕ Global). key.items) keys list (in_of _ _ h) in
      in_any (λ (key : Vec ℕ Global). pointwise eqb list key.items) keys r.0 r.1 ((slice_eq-Decides Decides-eqb list r.0.items _ refl).1 (sym r.2)),
)

-- what is kept once a list was added
pub added : (old new : List (Vec ℕ Global)) (list : Vec ℕ Global) (b : Bool) → b ≡ not (list_any (λ key. pointwise eqb list.items key.items) old)
    → MatchBool b (IsPermutation (list ∷ old) new) (new ≡ old)
    → MatchBool b (¬ Contains (map (λ key. key.items) old) list.items) (Contains (map (λ key. key.items) old) list.items)
    × ((other : List ℕ) → Contains (map (λ key. key.items) new) other ↔ (Contains (map (λ key. key.items) old) other ⊎ (other ≡ list.items)))
added old new list true e p =
    let f : Vec ℕ Global → List ℕ = λ key. key.items in
    let moved = IsPermutation-map f (list ∷ old) new p in (
      λ h. let was = (found old list.items).1 h in absurd (not_both _ was e),
      λ other. (
        λ h. elim (in_of (map f (list ∷ old)) other (Contains-permutation (map f new) (map f (list ∷ old)) other (IsPermutation-sym _ _ moved) h)) [
          | inl s ↦ inr (sym s)
          | inr o ↦ inl (of_in (map f old) other o)
        ],
        λ h. Contains-permutation (map f (list ∷ old)) (map f new) other moved (of_in (map f (list ∷ old)) other (elim h [
          | inl o ↦ inr (in_of (map f old) other o)
          | inr s ↦ inl (sym s)
        ])),
      ),
    )
  where
    not_both : (t : Bool) → t ≡ true → true ≡ not t → ⊥
    not_both true s e = cc
    not_both false s e = cc
added old new list false e p =
    let f : Vec ℕ Global → List ℕ = λ key. key.items in
    let was = (found old list.items).0 (kept _ e) in
    let same : map f new ≡ map f old = ap (map f) p in (
      was,
      λ other. (
        λ h. inl (let P : List (List ℕ) → Type 0 = λ l. Contains l other in subst P same h),
        λ h. let P : List (List ℕ) → Type 0 = λ l. Contains l other in subst P (sym same) (elim h [
          | inl o ↦ o
          | inr s ↦ (let Q : List ℕ → Type 0 = λ l. Contains (map f old) l in subst Q (sym s) was)
        ]),
      ),
    )
  where
    kept : (t : Bool) → false ≡ not t → t ≡ true
    kept true e = refl
    kept false e = cc
