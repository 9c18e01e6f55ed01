-- Statements that are read one after the other.
use Rattle.std.proofs.Common.{◌≡◌, ℕ, ◌+◌, List, [], ◌∷◌, ◌++◌, false, Option, Some, None, is_none, IsSome, take, refl, sym, subst, codes}
use Rattle.std.specs.List.{AllZip, slice_get}
use Rattle.serde_json.specs.Data.{Data}
use Rattle.serde_json.specs.Find.{get}
use Rattle.iam_policy.specs.declared.effect.Effect.{Effect}
use Rattle.iam_policy.specs.declared.fault.Fault.TheVariants.{BadEffect, ActionCount, BadVariable}
use Rattle.iam_policy.specs.declared.fault.Kind.{Kind}
use Rattle.iam_condition.specs.Condition.{has_bad_text}
use Rattle.iam_element.specs.Element.{both, neither, stands_as}
use Rattle.iam_policy.specs.Statement.{effect_of}
use Rattle.iam_element.specs.Grammar.{has_bad_variable}
use Rattle.iam_policy.specs.Version.{version_of}
use Rattle.iam_policy.specs.Code.First.{HasLeast}
use Rattle.iam_policy.specs.Code.Readable.{IsReadable}
use Rattle.iam_policy.proofs.ElementLemmas.{first_false, second_false, take_next}
use Rattle.iam_policy.proofs.FaultLaws.{no_bad_value, no_line}

zip_push : {A B : Type 0} (R : A → B → Type 0) (xs : List A) (ys : List B) (x : A) (y : B) → AllZip R xs ys → R x y → AllZip R (xs ++ (x ∷ [])) (ys ++ (y ∷ []))
zip_push R [] [] x y zip here = (here, tt)
zip_push R [] (b ∷ ys) x y zip here = absurd zip
zip_push R (a ∷ xs) [] x y zip here = absurd zip
zip_push R (a ∷ xs) (b ∷ ys) x y zip here = (zip.0, zip_push R xs ys x y zip.1 here)

-- one more statement read
pub zip_more : {A B : Type 0} (R : A → B → Type 0) (xs : List A) (i : ℕ) (x : A) (ys : List B) (y : B) → slice_get xs i ≡ Some x
    → AllZip R (take i xs) ys → R x y → AllZip R (take (i + 1) xs) (ys ++ (y ∷ []))
zip_more {A} {B} R xs i x ys y at zip here =
    let P : List A → Type 0 = λ front. AllZip R front (ys ++ (y ∷ [])) in
    subst P (sym (take_next xs i x at)) (zip_push R (take i xs) ys x y zip here)

-- a statement that has no fault has an effect, one of the two action elements, no bad variable and no bad value
pub readable : (kind : Kind) (d : Data) (i : ℕ) (s : Data) → HasLeast kind d i s None → IsReadable (version_of d) s
readable kind d i s none = record {
  effect = effect (effect_of s) (no_line kind d i s none.bad BadEffect none.least);
  action =
      second_false (both (get (codes "Action") s) (get (codes "NotAction") s)) (neither (get (codes "Action") s) (get (codes "NotAction") s))
      (no_line kind d i s none.bad ActionCount none.least);
  variables = first_false _ _ (no_line kind d i s none.bad BadVariable none.least);
  texts = second_false (has_bad_variable (version_of d) s) (stands_as (has_bad_text (version_of d)) (get (codes "Condition") s)) (no_line kind d i s none.bad BadVariable none.least);
  values = no_bad_value kind d i s none;
}
  where
    effect : (o : Option Effect) → is_none o ≡ false → IsSome o
    effect None e = cc
    effect (Some word) e = refl
