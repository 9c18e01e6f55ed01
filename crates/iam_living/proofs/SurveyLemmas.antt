-- What was found of pairs stays right where more is found.
use Rattle.std.proofs.Common.{◌≡◌, inl, inr, ℕ, ◌+◌, List, [], ◌∷◌, ◌++◌, length, Some, sym, subst}
use Rattle.std.specs.List.{slice_get}
use Rattle.iam_decision.specs.Living.{SharedValue}
use Rattle.iam_world.specs.World.{WorldValue}
use Rattle.iam_living.specs.Survey.{AreClassesOf, IsClass, IsSharedBy}
use Rattle.iam_index.proofs.ListLemmas.{get_back, get_more}

-- one more pair, with what was put behind what was found
pub classes_more : (world : WorldValue) (from : ℕ) (classes more : List SharedValue) (numbers : List ℕ) (number : ℕ) (shared : SharedValue)
    → slice_get (classes ++ more) number ≡ Some shared → IsSharedBy world (from + length numbers) shared → AreClassesOf world from classes numbers
    → AreClassesOf world from (classes ++ more) (numbers ++ number ∷ [])
classes_more world from classes more numbers number shared there own all i n at =
    elim (get_back numbers number i n at) [
      | inl before ↦ let (other, here, is) = all i n before in (other, get_more classes more n other here, is)
      | inr (last, same) ↦
          let P : ℕ → Type 0 = λ k. IsClass (classes ++ more) n (IsSharedBy world (from + k)) in
          let Q : ℕ → Type 0 = λ k. IsClass (classes ++ more) k (IsSharedBy world (from + length numbers)) in
          subst P (sym last) (subst Q (sym same) (shared, there, own))
    ]
