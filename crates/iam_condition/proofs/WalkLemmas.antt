-- Walks over the operators and keys of a condition.
use Rattle.std.proofs.Common.{◌≡◌, ℕ, List, [], ◌∷◌, Bool, ◌||◌, Some, map, refl, sym, ap, ◌∙◌}
use Rattle.std.specs.List.{flat_map, list_any}
use Rattle.std.proofs.lemmas.List.Folds.{list_any-append}
use Rattle.serde_json.specs.Data.{Data}
use Rattle.iam_condition.specs.declared.form.KeyFault.{KeyFault}
use Rattle.iam_condition.specs.declared.operator.Operator.{Operator}
use Rattle.iam_condition.specs.Code.Walks.{given, given_has, key_has, member_has}
use Rattle.iam_condition.specs.Condition.{given_in, given_under, members_of}
use Rattle.iam_condition.specs.Operator.{operator_of}

pub any_map : {X Y : Type 0} (f : X → Y) (p : Y → Bool) (xs : List X) → list_any p (map f xs) ≡ list_any (λ x. p (f x)) xs
any_map f p [] = refl
any_map f p (x ∷ xs) = ap (λ b. p (f x) || b) (any_map f p xs)

pub any_flat_map : {X Y : Type 0} (f : X → List Y) (p : Y → Bool) (xs : List X) → list_any p (flat_map f xs) ≡ list_any (λ x. list_any p (f x)) xs
any_flat_map f p [] = refl
any_flat_map f p (x ∷ xs) = list_any-append p (f x) (flat_map f xs) ∙ ap (λ b. list_any p (f x) || b) (any_flat_map f p xs)

-- the keys under an operator
pub under_name : (fault : KeyFault) (operator : Operator) (m : List ℕ × Data) → operator_of m.0 ≡ Some operator
    → list_any (λ k. key_has fault operator.base k.1) (members_of m.1) ≡ member_has fault m
under_name fault operator m is =
    rw is (sym (any_map (given operator) (given_has fault) (members_of m.1)))

-- all keys
pub under_all : (fault : KeyFault) (d : Data) → list_any (member_has fault) (members_of d) ≡ list_any (given_has fault) (given_in d)
under_all fault d = sym (any_flat_map given_under (given_has fault) (members_of d))
