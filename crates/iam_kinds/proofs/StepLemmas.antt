-- What places lead to.
use Rattle.std.proofs.Common.{◌≡◌, inl, inr, ℕ, zero, suc, ◌<◌, ◌≤◌, ◌+◌, ◌-◌, Bool, true, false, ◌==◌, List, [], ◌∷◌, ◌++◌, length, refl, sym, ap, ◌∙◌, subst, arith, append-nil}
use Rattle.std.specs.List.{flat_map}
use Rattle.iam_glob.specs.declared.sign.Sign.{Sign}
use Rattle.iam_glob.specs.declared.sign.Sign.TheVariants.{Given, One, Any}
use Rattle.iam_kinds.specs.Code.{AreIn, moves_from, moves_of, rest_at, place_at, starts_from}
use Rattle.iam_kinds.specs.declared.table.Pattern.{Pattern}
use Rattle.iam_kinds.specs.declared.table.Place.{Place}
use Rattle.iam_kinds.proofs.Members.{In, from_flat, all_of, of_all}
use Rattle.iam_kinds.proofs.PlaceLemmas.{le_cases}

-- a place leads to places of its own pattern
pub moves_own : (p at : ℕ) (signs : List Sign) (c : ℕ) (k : Place) → In k (moves_from p at signs c) → k.pattern ≡ p
moves_own p at [] c k h = absurd h
moves_own p at (Given d ∷ signs) c k h = by_test p at c d k (d == c) refl h
  where
    by_test : (p at c d : ℕ) (k : Place) (b : Bool) → (d == c) ≡ b → In k (moves_from p at (Given d ∷ []) c) → k.pattern ≡ p
    by_test p at c d k true e h = elim (rw e at h) [ inl s ↦ sym (ap (λ (j : Place). j.pattern) s) | inr none ↦ absurd none ]
    by_test p at c d k false e h = absurd (rw e at h)
moves_own p at (One ∷ signs) c k (inl s) = sym (ap (λ (j : Place). j.pattern) s)
moves_own p at (One ∷ signs) c k (inr none) = absurd none
moves_own p at (Any ∷ signs) c k (inl s) = sym (ap (λ (j : Place). j.pattern) s)
moves_own p at (Any ∷ signs) c k (inr h) = moves_own p (at + 1) signs c k h

pub moves_in : (patterns : List Pattern) (places : List Place) (c : ℕ) → AreIn patterns places → AreIn patterns (flat_map (moves_of patterns c) places)
moves_in patterns places c all =
    all_of (λ (k : Place). k.pattern < length patterns) (flat_map (moves_of patterns c) places) (λ k h.
    let r = from_flat (moves_of patterns c) places k h in
    let own = moves_own r.0.pattern r.0.at (rest_at patterns r.0) c k r.2 in
    let P : ℕ → Type 0 = λ n. n < length patterns in
    subst P (sym own) (of_all (λ (k : Place). k.pattern < length patterns) places all r.0 r.1))

-- one pattern more begins
pub starts_more : (first count : ℕ) → first < count → starts_from first (count - first) ≡ place_at first 0 ∷ starts_from (first + 1) (count - (first + 1))
starts_more first count below =
    let e : count - first ≡ suc (count - (first + 1)) = omega arith in
    ap (λ n. starts_from first n) e

pub starts_done : (first p count : ℕ) (starts : List Place) → count ≤ p → starts_from first (count - first) ≡ starts ++ starts_from p (count - p)
    → starts ≡ starts_from first (count - first)
starts_done first p count starts done all =
    let none : count - p ≡ 0 = omega arith in
    sym (all ∙ ap (λ n. starts ++ starts_from p n) none ∙ append-nil starts)

pub starts_in : (patterns : List Pattern) (first count : ℕ) → first + count ≤ length patterns → AreIn patterns (starts_from first count)
starts_in patterns first count fits =
    all_of (λ (k : Place). k.pattern < length patterns) (starts_from first count) (λ k h. below (length patterns) first count k fits h)
  where
    below : (n first count : ℕ) (k : Place) → first + count ≤ n → In k (starts_from first count) → k.pattern < n
    below n first zero k fits h = absurd h
    below n first (suc count) k fits (inl s) = let e : first ≡ k.pattern = ap (λ (j : Place). j.pattern) s in omega arith
    below n first (suc count) k fits (inr h) = below n (first + 1) count k (omega arith) h

pub from_starts : (first count : ℕ) (k : Place) → In k (starts_from first count) → (first ≤ k.pattern) × (k.pattern < first + count) × (k ≡ place_at k.pattern 0)
from_starts first zero k h = absurd h
from_starts first (suc count) k (inl e) =
    let here : first ≡ k.pattern = ap (λ (j : Place). j.pattern) e in (omega arith, omega arith, sym e ∙ ap (λ i. place_at i 0) here)
from_starts first (suc count) k (inr h) = let r = from_starts (first + 1) count k h in (
  (let b : first + 1 ≤ k.pattern = r.0 in omega arith),
  (let b : k.pattern < first + 1 + count = r.1 in omega arith),
  r.2,
)

pub in_starts : (first count i : ℕ) → first ≤ i → i < first + count → In (place_at i 0) (starts_from first count)
in_starts first zero i low high = absurd (omega arith)
in_starts first (suc count) i low high = elim (le_cases first i) [
  | inl below ↦ inr (in_starts (first + 1) count i (omega arith) (omega arith))
  | inr above ↦ inl (let same : first ≡ i = omega arith in ap (λ n. place_at n 0) same)
]
