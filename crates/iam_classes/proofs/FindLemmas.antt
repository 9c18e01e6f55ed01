-- The statements that act on an action, found by their rows.
use Rattle.std.proofs.Common.{Some, ◌≡◌, ◌⊎◌, inl, inr, ℕ, suc, zero, ◌<◌, Bool, true, false, List, [], ◌∷◌, All, length, refl, arith}
use Rattle.std.specs.Borrow.{Bor}
use Rattle.std.specs.List.{slice_get}
use Rattle.iam_decision.specs.declared.living.Matched.{Matched}
use Rattle.iam_classes.specs.Batch.{Acts, AreFoundIn, RowsFind}

-- a row that reaches to an action says yes or no
told : (row : List Bool) (a : ℕ) → a < length row → Acts row a ⊎ (slice_get row a ≡ Some false)
told [] a below = absurd (omega arith)
told (true ∷ row) zero below = inl refl
told (false ∷ row) zero below = inr refl
told (b ∷ row) (suc a) below = told row a (omega arith)

find : (statements : List Matched) (rows : List (Bor (List Bool))) (a : ℕ) → length rows ≡ length statements
    → All (λ row. a < length row.now) rows → (found : List Matched) × AreFoundIn statements rows a found
find [] [] a same reach = ([], refl)
find [] (r ∷ rs) a same reach = absurd (omega (arith, same))
find (s ∷ ss) [] a same reach = absurd (omega (arith, same))
find (s ∷ ss) (r ∷ rs) a same reach =
    let later = find ss rs a (omega (arith, same)) (λ k d below. reach (suc k) d (omega (arith, below))) in
    elim (told r.now a (reach 0 r (omega arith))) [
      | inl on ↦ (s ∷ later.0, inl (on, (later.0, refl, later.1)))
      | inr off ↦ (later.0, inr (off, later.1))
    ]

pub rows_find : RowsFind
rows_find = find
