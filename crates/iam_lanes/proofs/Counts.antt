-- How often a number stands in a list, after one is added at its end.
use Rattle.std.proofs.Common.{◌≡◌, ◌≢◌, ◌⊎◌, ℕ, zero, suc, ◌+◌, false, ◌&&◌, cond, eqb, List, [], ◌∷◌, ◌++◌, get_or, replicate, refl, ap, ◌∙◌, ⊎_elim, arith}
use Rattle.std.proofs.lemmas.Bool.{eq-eqb, ne_eqb, and_left, and_right}
use Rattle.std.proofs.lemmas.List.Sums.{sum_by_push, sum_by-append}
use Rattle.iam_lanes.specs.Lanes.{times, times_taken}

-- no flag is set in a list of flags that are not set
pub no_flags : (n lane : ℕ) → get_or (replicate n false) lane false ≡ false
no_flags zero lane = refl
no_flags (suc n) zero = refl
no_flags (suc n) (suc lane) = no_flags n lane

pub times_push : (x y : ℕ) (xs : List ℕ) → times x (xs ++ y ∷ []) ≡ times x xs + cond (eqb x y) 1 0
times_push x y xs = sum_by_push (λ z. cond (eqb x z) 1 0) xs y

pub times_push_same : (x : ℕ) (xs : List ℕ) → times x (xs ++ x ∷ []) ≡ times x xs + 1
times_push_same x xs = times_push x x xs ∙ ap (λ b. times x xs + cond b 1 0) (eq-eqb x x refl)

pub times_push_other : (x y : ℕ) (xs : List ℕ) → x ≢ y → times x (xs ++ y ∷ []) ≡ times x xs
times_push_other x y xs ne = let e = times_push x y xs ∙ ap (λ b. times x xs + cond b 1 0) (ne_eqb x y ne) in omega (arith, e)

pub taken_push : (lane n k m : ℕ) (xs : List (ℕ × ℕ)) → times_taken lane n (xs ++ (k, m) ∷ []) ≡ times_taken lane n xs + cond (eqb lane k && eqb n m) 1 0
taken_push lane n k m xs = sum_by_push (λ (p : ℕ × ℕ). cond (eqb lane p.0 && eqb n p.1) 1 0) xs (k, m)

pub taken_push_same : (lane n : ℕ) (xs : List (ℕ × ℕ)) → times_taken lane n (xs ++ (lane, n) ∷ []) ≡ times_taken lane n xs + 1
taken_push_same lane n xs =
    taken_push lane n lane n xs ∙ ap (λ b. times_taken lane n xs + cond (b && eqb n n) 1 0) (eq-eqb lane lane refl) ∙ ap (λ b. times_taken lane n xs + cond b 1 0) (eq-eqb n n refl)

-- another lane, or another number
pub taken_push_other : (lane n k m : ℕ) (xs : List (ℕ × ℕ)) → (lane ≢ k) ⊎ (n ≢ m) → times_taken lane n (xs ++ (k, m) ∷ []) ≡ times_taken lane n xs
taken_push_other lane n k m xs other =
    let b : (eqb lane k && eqb n m) ≡ false = ⊎_elim (λ ne. and_left _ _ (ne_eqb lane k ne)) (λ ne. and_right _ _ (ne_eqb n m ne)) other in
    let e = taken_push lane n k m xs ∙ ap (λ b. times_taken lane n xs + cond b 1 0) b in omega (arith, e)

-- in two lists one after the other
pub times_append : (x : ℕ) (xs ys : List ℕ) → times x (xs ++ ys) ≡ times x xs + times x ys
times_append x xs ys = sum_by-append (λ z. cond (eqb x z) 1 0) xs ys

pub taken_append : (lane n : ℕ) (xs ys : List (ℕ × ℕ)) → times_taken lane n (xs ++ ys) ≡ times_taken lane n xs + times_taken lane n ys
taken_append lane n xs ys = sum_by-append (λ (p : ℕ × ℕ). cond (eqb lane p.0 && eqb n p.1) 1 0) xs ys
