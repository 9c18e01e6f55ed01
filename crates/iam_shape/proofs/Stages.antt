-- The walk of a whole document, list after list.
use Rattle.std.proofs.Common.{◌≡◌, List, [], ◌∷◌, ◌++◌, map, Some, None, ◌∙◌}
use Rattle.std.specs.List.{AllZip}
use Rattle.serde_json.specs.Data.{Data}
use Rattle.iam_shape.specs.Shape.{Check, account_checks, first_bad, each, list_at, list_checks, principal_checks, resource_checks, shape_checks}
use Rattle.iam_shape.specs.Code.Walk.{action_checks, head_checks, tail_checks}
use Rattle.iam_shape.specs.View.{HasListOf}
use Rattle.iam_shape.specs.declared.path.Name.{Name}
use Rattle.iam_shape.specs.declared.path.Name.TheVariants.{Accounts, Principals, Actions, Resources}
use Rattle.iam_shape.specs.declared.path.Path.{Path}
use Rattle.iam_shape.specs.declared.path.Path.TheVariants.{Member}
use Rattle.iam_shape.proofs.Walks.{first_bad_here, first_bad_later}

-- the checks of the lists, and what stands behind each
abbrev pub accounts : Data → List Check
accounts d = list_checks (Member Accounts) (λ accounts. each (account_checks accounts) 0 accounts) (list_at Accounts d)

abbrev pub principals : Data → List Check
principals d = list_checks (Member Principals) (each principal_checks 0) (list_at Principals d)

abbrev pub actions : Data → List Check
actions d = list_checks (Member Actions) (each action_checks 0) (list_at Actions d)

abbrev pub resources : Data → List Check
resources d = list_checks (Member Resources) (each resource_checks 0) (list_at Resources d)

abbrev behind_actions : Data → List Check
behind_actions d = resources d ++ tail_checks d

abbrev behind_principals : Data → List Check
behind_principals d = actions d ++ behind_actions d

abbrev behind_accounts : Data → List Check
behind_accounts d = principals d ++ behind_principals d

abbrev behind_head : Data → List Check
behind_head d = accounts d ++ behind_accounts d

-- the first check that fails is among the first ones; or among the accounts', where none of those before it fails; and so on
pub in_head : (d : Data) (path : Path) → first_bad (head_checks d) ≡ Some path → first_bad (shape_checks d) ≡ Some path
in_head d path bad = first_bad_here (head_checks d) (behind_head d) path bad

pub in_accounts : (d : Data) → first_bad (head_checks d) ≡ None → (path : Path) → first_bad (accounts d) ≡ Some path → first_bad (shape_checks d) ≡ Some path
in_accounts d head path bad = first_bad_later (head_checks d) (behind_head d) head ∙ first_bad_here (accounts d) (behind_accounts d) path bad

past_accounts : (d : Data) → first_bad (head_checks d) ≡ None → first_bad (accounts d) ≡ None → first_bad (shape_checks d) ≡ first_bad (behind_accounts d)
past_accounts d head one = first_bad_later (head_checks d) (behind_head d) head ∙ first_bad_later (accounts d) (behind_accounts d) one

pub in_principals : (d : Data) → first_bad (head_checks d) ≡ None → first_bad (accounts d) ≡ None → (path : Path) → first_bad (principals d) ≡ Some path
    → first_bad (shape_checks d) ≡ Some path
in_principals d head one path bad = past_accounts d head one ∙ first_bad_here (principals d) (behind_principals d) path bad

past_principals : (d : Data) → first_bad (head_checks d) ≡ None → first_bad (accounts d) ≡ None → first_bad (principals d) ≡ None
    → first_bad (shape_checks d) ≡ first_bad (behind_principals d)
past_principals d head one two = past_accounts d head one ∙ first_bad_later (principals d) (behind_principals d) two

pub in_actions : (d : Data) → first_bad (head_checks d) ≡ None → first_bad (accounts d) ≡ None → first_bad (principals d) ≡ None → (path : Path)
    → first_bad (actions d) ≡ Some path → first_bad (shape_checks d) ≡ Some path
in_actions d head one two path bad = past_principals d head one two ∙ first_bad_here (actions d) (behind_actions d) path bad

past_actions : (d : Data) → first_bad (head_checks d) ≡ None → first_bad (accounts d) ≡ None → first_bad (principals d) ≡ None → first_bad (actions d) ≡ None
    → first_bad (shape_checks d) ≡ first_bad (behind_actions d)
past_actions d head one two three = past_principals d head one two ∙ first_bad_later (actions d) (behind_actions d) three

pub in_resources : (d : Data) → first_bad (head_checks d) ≡ None → first_bad (accounts d) ≡ None → first_bad (principals d) ≡ None → first_bad (actions d) ≡ None
    → (path : Path) → first_bad (resources d) ≡ Some path → first_bad (shape_checks d) ≡ Some path
in_resources d head one two three path bad = past_actions d head one two three ∙ first_bad_here (resources d) (tail_checks d) path bad

-- where no list has a check that fails, the last ones decide
pub past_resources : (d : Data) → first_bad (head_checks d) ≡ None → first_bad (accounts d) ≡ None → first_bad (principals d) ≡ None → first_bad (actions d) ≡ None
    → first_bad (resources d) ≡ None → first_bad (shape_checks d) ≡ first_bad (tail_checks d)
past_resources d head one two three four = past_actions d head one two three ∙ first_bad_later (resources d) (tail_checks d) four

-- a list of what the code holds is one of what that says
pub list_of_map : {A B : Type 0} (Says : Data → B → Type 0) (f : A → B) (name : Name) (d : Data) (xs : List A) → HasListOf (λ e x. Says e (f x)) name d xs → HasListOf Says name d (map f xs)
list_of_map Says f name d xs (ds, at, zip) = (ds, at, go ds xs zip)
  where
    go : (ds : List Data) (xs : List _) → AllZip (λ e x. Says e (f x)) ds xs → AllZip Says ds (map f xs)
    go [] [] zip = zip
    go [] (x ∷ xs) zip = zip
    go (d ∷ ds) [] zip = zip
    go (d ∷ ds) (x ∷ xs) zip = (zip.0, go ds xs zip.1)
