-- Numbers that are picked.
use Rattle.std.proofs.Common.{◌≡◌, ℕ, zero, suc, ◌+◌, ◌-◌, ◌<◌, ◌≤◌, List, [], ◌∷◌, ◌++◌, length, inl, inr, ⊎_elim, refl, sym, ap, subst, ◌∙◌, arith}
use Rattle.std.specs.List.{AllByRecursion}
use Rattle.iam_selection.specs.Report.{ArePicked}

-- none are picked where all are passed over
pub picked_none : (P Q : ℕ → Type 0) (from n : ℕ) → ((cell : ℕ) → from ≤ cell → cell < from + n → Q cell) → ArePicked P Q from n []
picked_none P Q from zero none = refl
picked_none P Q from (suc n) none = (
  [],
  picked_none P Q (from + 1) n (λ cell least most. none cell (omega (arith, least)) (omega (arith, most))),
  inr (none from (omega arith) (omega arith), refl),
)

-- of one number, it or none
pub picked_one : (P Q : ℕ → Type 0) (from : ℕ) → P from → ArePicked P Q from 1 (from ∷ [])
picked_one P Q from is = ([], refl, inl (is, refl))

pub picked_not : (P Q : ℕ → Type 0) (from : ℕ) → Q from → ArePicked P Q from 1 []
picked_not P Q from not = ([], refl, inr (not, refl))

-- of two stretches of numbers that follow one another
pub picked_both : (P Q : ℕ → Type 0) (from n m : ℕ) (xs ys : List ℕ) → ArePicked P Q from n xs → ArePicked P Q (from + n) m ys → ArePicked P Q from (n + m) (xs ++ ys)
picked_both P Q from zero m xs ys none b =
    let same : from + 0 ≡ from = omega arith in
    let count : m ≡ zero + m = omega arith in
    subst (λ k. ArePicked P Q from k (xs ++ ys)) count
    (subst (λ zs. ArePicked P Q from m (zs ++ ys)) (sym none) (subst (λ k. ArePicked P Q k m ys) same b))
picked_both P Q from (suc n) m xs ys (rest, more, is) b =
    let here : from + suc n ≡ from + 1 + n = omega arith in
    let count : suc (n + m) ≡ suc n + m = omega arith in
    let others = picked_both P Q (from + 1) n m rest ys more (subst (λ k. ArePicked P Q k m ys) here b) in
    subst (λ k. ArePicked P Q from k (xs ++ ys)) count
    (⊎_elim (λ first. (rest ++ ys, others, inl (first.0, ap (λ zs. zs ++ ys) first.1)))
    (λ first. (rest ++ ys, others, inr (first.0, ap (λ zs. zs ++ ys) first.1))) is)

-- the numbers up to another one, and it, or none of those up to a further one
pub picked_to : (P Q : ℕ → Type 0) (from here next : ℕ) (xs ys : List ℕ) → from ≤ here → here ≤ next → ArePicked P Q from (here - from) xs → ArePicked P Q here (next - here) ys
    → ArePicked P Q from (next - from) (xs ++ ys)
picked_to P Q from here next xs ys least more a b =
    let at : here ≡ from + (here - from) = omega arith in
    let count : here - from + (next - here) ≡ next - from = omega arith in
    subst (λ k. ArePicked P Q from k (xs ++ ys)) count
    (picked_both P Q from (here - from) (next - here) xs ys a (subst (λ k. ArePicked P Q k (next - here) ys) at b))

-- no more are picked than there are
pub picked_count : (P Q : ℕ → Type 0) (from n : ℕ) (xs : List ℕ) → ArePicked P Q from n xs → length xs ≤ n
picked_count P Q from zero xs none = omega (arith, ap (λ (ys : List ℕ). length ys) none)
picked_count P Q from (suc n) xs (rest, more, is) =
    let few = picked_count P Q (from + 1) n rest more in
    ⊎_elim (λ first. omega (arith, few, ap (λ (ys : List ℕ). length ys) first.1)) (λ first. omega (arith, few, ap (λ (ys : List ℕ). length ys) first.1)) is

-- each is one of them
pub record IsBetween (from most cell : ℕ) : Type 0 where
  pub least : from ≤ cell
  pub below : cell < most

pub picked_each : (P Q : ℕ → Type 0) (from n : ℕ) (xs : List ℕ) → ArePicked P Q from n xs → AllByRecursion (IsBetween from (from + n)) xs
picked_each P Q from zero xs none = subst (AllByRecursion (IsBetween from (from + 0))) (sym none) tt
picked_each P Q from (suc n) xs (rest, more, is) =
    let others = wider from n rest (picked_each P Q (from + 1) n rest more) in
    ⊎_elim (λ first. subst (AllByRecursion (IsBetween from (from + suc n))) (sym first.1) (record { least = omega arith; below = omega arith }, others))
    (λ first. subst (AllByRecursion (IsBetween from (from + suc n))) (sym first.1) others) is
  where
    wider : (from n : ℕ) (xs : List ℕ) → AllByRecursion (IsBetween (from + 1) (from + 1 + n)) xs → AllByRecursion (IsBetween from (from + suc n)) xs
    wider from n [] all = tt
    wider from n (x ∷ xs) (is, all) = (record { least = omega (arith, is.least); below = omega (arith, is.below) }, wider from n xs all)

-- behind the first come those that are picked of the numbers above it
pub picked_rest : (P Q : ℕ → Type 0) (from n : ℕ) (x : ℕ) (xs : List ℕ) → ArePicked P Q from n (x ∷ xs)
    → (m : ℕ) × (x + 1 + m ≡ from + n) × ArePicked P Q (x + 1) m xs
picked_rest P Q from zero x xs none = absurd (let wrong : ⊥ = cc in wrong)
picked_rest P Q from (suc n) x xs (rest, more, is) =
    ⊎_elim
    (λ first. let here : x ≡ from = cc in let others : xs ≡ rest = cc in
    (n, (omega (arith, here)), subst (λ k. ArePicked P Q (k + 1) n xs) (sym here) (subst (ArePicked P Q (from + 1) n) (sym others) more)))
    (λ first. let deeper = picked_rest P Q (from + 1) n x xs (subst (ArePicked P Q (from + 1) n) (sym first.1) more) in
    (deeper.0, (omega (arith, deeper.1)), deeper.2)) is

-- they are one list
pub one_pick : (P Q : ℕ → Type 0) (from n : ℕ) (xs ys : List ℕ) → ((cell : ℕ) → P cell → ¬ Q cell) → ArePicked P Q from n xs → ArePicked P Q from n ys → xs ≡ ys
one_pick P Q from zero xs ys other a b = a ∙ sym b
one_pick P Q from (suc n) xs ys other (rest, more, is) (others, same, there) =
    let one = one_pick P Q (from + 1) n rest others other more same in
    ⊎_elim
    (λ h. ⊎_elim (λ k. h.1 ∙ ap (λ zs. from ∷ zs) one ∙ sym k.1) (λ k. absurd (other from h.0 k.0)) there)
    (λ h. ⊎_elim (λ k. absurd (other from k.0 h.0)) (λ k. h.1 ∙ one ∙ sym k.1) there) is
