-- What bits pick of lists.
use Rattle.std.proofs.Common.{◌≡◌, ◌↔◌, inl, inr, ◌<◌, ◌≤◌, ◌+◌, ℕ, zero, suc, Bool, true, false, ◌&&◌, IsTrue, List, [], ◌∷◌, ◌∙◌, arith, ap, drop, get_or, length, refl, subst, sym}
use Rattle.iam_decision.specs.Matched.{Selects}
use Rattle.iam_every.specs.Code.Picked.{TellEach, both, picked}

-- what is picked of those that are selected is selected by what the bits tell of them
pub picked_selects : {X : Type 0} (P Q R : X → Type 0) → ((x : X) → R x → P x × Q x) → ((x : X) → P x → Q x → R x)
    → (xs chosen : List X) (bits : List Bool) → Selects P xs chosen → TellEach Q chosen bits → Selects R xs (picked chosen bits)
picked_selects {X} P Q R apart together [] chosen bits is told = ap (λ (l : List X). picked l bits) is
picked_selects {X} P Q R apart together (x ∷ xs) chosen bits (inr (not, rest)) told =
    inr (λ r. not (apart x r).0, picked_selects P Q R apart together xs chosen bits rest told)
picked_selects {X} P Q R apart together (x ∷ xs) chosen bits (inl (p, (rest, is, selected))) told =
    subst (λ (l : List X). Selects R (x ∷ xs) (picked l bits)) (sym is)
    (first (λ further tells. picked_selects P Q R apart together xs rest further selected tells) bits (subst (λ (l : List X). TellEach Q l bits) is told))
  where
    first : ((further : List Bool) → TellEach Q rest further → Selects R xs (picked rest further)) → (bits : List Bool) → TellEach Q (x ∷ rest) bits
        → Selects R (x ∷ xs) (picked (x ∷ rest) bits)
    first behind [] none = absurd none
    first behind (true ∷ further) (tells, all) = inl (together x p (tells.0 refl), (picked rest further, refl, behind further all))
    first behind (false ∷ further) (tells, all) =
        inr (λ r. absurd (let on = tells.1 (apart x r).1 in let wrong : ⊥ = cc in wrong), behind further all)

-- both lists of bits tell of both
and_tells : (P Q : Type 0) (bit other : Bool) → (IsTrue bit ↔ P) → (IsTrue other ↔ Q) → IsTrue (bit && other) ↔ (P × Q)
and_tells P Q true other one also = (λ on. (one.0 refl, also.0 on), λ (p, q). also.1 q)
and_tells P Q false other one also = (λ on. absurd (let wrong : ⊥ = cc in wrong), λ (p, q). absurd (let on = one.1 p in let wrong : ⊥ = cc in wrong))

pub both_tell : {X : Type 0} (P Q : X → Type 0) (xs : List X) (bits others : List Bool) → TellEach P xs bits → TellEach Q xs others
    → TellEach (λ x. P x × Q x) xs (both bits others)
both_tell P Q [] [] others tell told = tt
both_tell P Q [] (bit ∷ bits) others tell told = absurd tell
both_tell P Q (x ∷ xs) [] others tell told = absurd tell
both_tell P Q (x ∷ xs) (bit ∷ bits) [] tell told = absurd told
both_tell P Q (x ∷ xs) (bit ∷ bits) (other ∷ others) (one, rest) (also, further) =
    (and_tells (P x) (Q x) bit other one also, both_tell P Q xs bits others rest further)

-- ---- one more member is walked
picked_none : {X : Type 0} (xs : List X) → picked xs [] ≡ []
picked_none [] = refl
picked_none (x ∷ xs) = refl

no_and : (bit : Bool) → (bit && false) ≡ false
no_and true = refl
no_and false = refl

one_more : {X : Type 0} (xs : List X) (bits : List Bool) (i : ℕ) (x : X) → i < length xs → x ≡ get_or xs i x → get_or bits i false ≡ true
    → picked (drop i xs) (drop i bits) ≡ x ∷ picked (drop (suc i) xs) (drop (suc i) bits)
one_more [] bits i x below is on = absurd (let wrong : ⊥ = omega (arith, below) in wrong)
one_more (y ∷ xs) [] i x below is on = absurd (let wrong : ⊥ = cc in wrong)
one_more {X} (y ∷ xs) (true ∷ bits) zero x below is on = ap (λ (z : X). z ∷ picked xs bits) (sym is)
one_more (y ∷ xs) (false ∷ bits) zero x below is on = absurd (let wrong : ⊥ = cc in wrong)
one_more (y ∷ xs) (bit ∷ bits) (suc i) x below is on = one_more xs bits i x (omega (arith, below)) is on

one_skip : {X : Type 0} (xs : List X) (bits : List Bool) (i : ℕ) → i < length xs → get_or bits i false ≡ false
    → picked (drop i xs) (drop i bits) ≡ picked (drop (suc i) xs) (drop (suc i) bits)
one_skip [] bits i below off = absurd (let wrong : ⊥ = omega (arith, below) in wrong)
one_skip (y ∷ xs) [] zero below off = sym (picked_none xs)
one_skip (y ∷ xs) [] (suc i) below off = picked_none (drop i xs) ∙ sym (picked_none (drop (suc i) xs))
one_skip (y ∷ xs) (true ∷ bits) zero below off = absurd (let wrong : ⊥ = cc in wrong)
one_skip (y ∷ xs) (false ∷ bits) zero below off = refl
one_skip (y ∷ xs) (bit ∷ bits) (suc i) below off = one_skip xs bits i (omega (arith, below)) off

pub picked_more : {X : Type 0} (xs : List X) (bits : List Bool) (i : ℕ) (x : X) → i < length xs → x ≡ get_or xs i x → get_or bits i false ≡ true
    → picked (drop i xs) (drop i bits) ≡ x ∷ picked (drop (i + 1) xs) (drop (i + 1) bits)
picked_more {X} xs bits i x below is on =
    subst (λ (j : ℕ). picked (drop i xs) (drop i bits) ≡ x ∷ picked (drop j xs) (drop j bits)) (let same : suc i ≡ i + 1 = omega arith in same)
    (one_more xs bits i x below is on)

pub picked_skip : {X : Type 0} (xs : List X) (bits : List Bool) (i : ℕ) → i < length xs → get_or bits i false ≡ false
    → picked (drop i xs) (drop i bits) ≡ picked (drop (i + 1) xs) (drop (i + 1) bits)
picked_skip xs bits i below off =
    subst (λ (j : ℕ). picked (drop i xs) (drop i bits) ≡ picked (drop j xs) (drop j bits)) (let same : suc i ≡ i + 1 = omega arith in same)
    (one_skip xs bits i below off)

pub picked_end : {X : Type 0} (xs : List X) (bits : List Bool) (i : ℕ) → length xs ≤ i → picked (drop i xs) (drop i bits) ≡ []
picked_end [] bits zero past = refl
picked_end [] bits (suc i) past = refl
picked_end (x ∷ xs) bits zero past = absurd (let wrong : ⊥ = omega (arith, past) in wrong)
picked_end (x ∷ xs) [] (suc i) past = picked_none (drop i xs)
picked_end (x ∷ xs) (bit ∷ bits) (suc i) past = picked_end xs bits i (omega (arith, past))

pub both_at : (bits others : List Bool) (i : ℕ) → get_or (both bits others) i false ≡ (get_or bits i false && get_or others i false)
both_at [] others i = refl
both_at (bit ∷ bits) [] i = sym (no_and (get_or (bit ∷ bits) i false))
both_at (bit ∷ bits) (other ∷ others) zero = refl
both_at (bit ∷ bits) (other ∷ others) (suc i) = both_at bits others i
