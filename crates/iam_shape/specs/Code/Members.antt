-- The members of an account, as the code finds them in its document.
use Rattle.std.specs.Prelude.{◌≡◌, List, [], ◌∷◌, ℕ, Option, ◌||◌, is_some, map, not, option_map, true}
use Rattle.std.specs.Borrow.{Bor}
use Rattle.std.specs.Option.{option_or}
use Rattle.serde_json.specs.Data.{Data, Members}
use Rattle.serde_json.specs.Find.{as_object, get_member}
use Rattle.serde_json.specs.View.{view}
use Rattle.serde_json.specs.declared.value.Value.{Value}
use Rattle.iam_json.specs.Look.{has_other, is_one_of}
use Rattle.iam_shape.specs.Path.{name_text}
use Rattle.iam_shape.specs.Shape.{has_only, member}
use Rattle.iam_shape.specs.declared.path.Name.{Name}
use Rattle.iam_shape.specs.declared.path.Name.TheVariants.{Id, Management, Org}
use Rattle.iam_shape.specs.declared.account_members.Found.{Found}

-- the data of a member that was found
abbrev pub data_of : Option (Bor Value) → Option Data
data_of found = option_map (λ v. view v.now) found

-- the names of the members of an account
abbrev pub account_names : List (List ℕ)
account_names = map name_text (Id ∷ (Management ∷ (Org ∷ [])))

-- the member of this name is the one that was found, or else the first of those that are left
abbrev pub IsFoundAt : Name → Members → Members → Option (Bor Value) → Type 0
IsFoundAt name all left found =
    get_member (name_text name) all ≡ option_or (data_of found) (get_member (name_text name) left)

-- what was found of these members before those that are left
pub record AreFound (all left : Members) (found : Found) : Type 0 where
  pub id : IsFoundAt Id all left found.id
  pub management : IsFoundAt Management all left found.management
  pub org : IsFoundAt Org all left found.org
  pub other : has_other (is_one_of account_names) all ≡ (found.has_other || has_other (is_one_of account_names) left)

-- the members of this document, which is an object
pub record AreMembers (d : Data) (found : Found) : Type 0 where
  pub is_object : is_some (as_object d) ≡ true
  pub id : data_of found.id ≡ member Id d
  pub management : data_of found.management ≡ member Management d
  pub org : data_of found.org ≡ member Org d
  pub only : not found.has_other ≡ has_only (Id ∷ (Management ∷ (Org ∷ []))) d
