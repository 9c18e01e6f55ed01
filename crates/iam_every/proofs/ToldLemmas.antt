-- What is told beside a report: whether there are rows, and whether all are shown.
use Rattle.std.proofs.Common.{◌≡◌, ◌↔◌, ◌<◌, zero, suc, ℕ, Bool, true, false, IsTrue, List, [], ◌∷◌, All, Any, MatchBool, length, refl, arith}
use Rattle.std.proofs.lemmas.List.Elements.{All-cons, All-nil}
use Rattle.std.specs.List.{AllZip}
use Rattle.iam_decision.specs.declared.verdict.Decision.{Decision}
use Rattle.iam_every.specs.Every.{EveryValue, RowValue}
use Rattle.iam_every.specs.Report.{OfRows}
use Rattle.iam_every.specs.Code.Texts.{IsChosen}
use Rattle.iam_every.specs.declared.crew.Chosen.{Chosen}

-- P holds of one of those behind the first
later : {X : Type 0} (P : X → Type 0) (x : X) (xs : List X) → Any P xs → Any P (x ∷ xs)
later P x xs (k, y, inside, at, h) = (suc k, y, omega (arith, inside), at, h)

-- what is not true is false, and a list without members is empty
pub untrue : (b : Bool) → ¬ IsTrue b → b ≡ false
untrue true h = absurd (h refl)
untrue false h = refl

pub none_are : (rows : List RowValue) → ¬ (0 < length rows) → rows ≡ []
none_are [] h = refl
none_are (row ∷ rows) h = absurd (h (omega arith))

-- what is told of what was chosen says whether P holds of the rows of its principal; where it does not, Q does
module _ (every : EveryValue) (decisions : List Decision) (said : Chosen → Bool) (P Q : List RowValue → Type 0)
    (says : (p : ℕ) (chosen : Chosen) → (is : IsChosen every decisions p chosen) → IsTrue (said chosen) ↔ P is.rows)
    (not : (rows : List RowValue) → ¬ P rows → Q rows) where
  some : (principals : List ℕ) (all : List Chosen) → AllZip (IsChosen every decisions) principals all
      → Any (λ chosen. IsTrue (said chosen)) all → Any (OfRows every P) principals
  some [] [] are (k, y, inside, at, h) = absurd (omega (arith, inside))
  some [] (x ∷ all) are any = absurd are
  some (p ∷ principals) [] are any = absurd are
  some (p ∷ principals) (x ∷ all) are (zero, y, inside, at, h) =
      let told : IsTrue (said x) = (let same : x ≡ y = at in cc) in
      (0, p, omega arith, refl, (are.0.rows, are.0.are, (says p x are.0).0 told))
  some (p ∷ principals) (x ∷ all) are (suc k, y, inside, at, h) =
      later (OfRows every P) p principals (some principals all are.1 (k, y, omega (arith, inside), at, h))

  none : (principals : List ℕ) (all : List Chosen) → AllZip (IsChosen every decisions) principals all
      → ¬ Any (λ chosen. IsTrue (said chosen)) all → All (OfRows every Q) principals
  none [] [] are not_any = All-nil _
  none [] (x ∷ all) are not_any = absurd are
  none (p ∷ principals) [] are not_any = absurd are
  none (p ∷ principals) (x ∷ all) are not_any =
      let S : Chosen → Type 0 = λ chosen. IsTrue (said chosen) in
      All-cons (OfRows every Q) p principals
      (are.0.rows, are.0.are, not are.0.rows (λ h. not_any (0, x, omega arith, refl, (says p x are.0).1 h)))
      (none principals all are.1 (λ any. not_any (later S x all any)))

  pub tells : (principals : List ℕ) (all : List Chosen) (told : Bool) → AllZip (IsChosen every decisions) principals all
      → (IsTrue told ↔ Any (λ chosen. IsTrue (said chosen)) all)
      → MatchBool told (Any (OfRows every P) principals) (All (OfRows every Q) principals)
  tells principals all true are is = some principals all are (is.0 refl)
  tells principals all false are is = none principals all are (λ any. let yes = is.1 any in let wrong : ⊥ = cc in wrong)
