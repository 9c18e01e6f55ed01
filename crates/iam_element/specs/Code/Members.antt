-- The members of a statement, as the code finds them in its document.
use Rattle.std.specs.Prelude.{◌≡◌, Option, codes, option_map}
use Rattle.std.specs.Borrow.{Bor}
use Rattle.serde_json.specs.Data.{Data}
use Rattle.serde_json.specs.Find.{get}
use Rattle.serde_json.specs.View.{view}
use Rattle.serde_json.specs.declared.value.Value.{Value}

-- the data of an element that was found
abbrev pub data_of : Option (Bor Value) → Option Data
data_of element = option_map (λ v. view v.now) element

-- what was found of the members of a statement
pub record AreMembers (s : Value) (sid effect action not_action resource not_resource principal not_principal condition : Option (Bor Value)) : Type 0 where
  pub sid_is : data_of sid ≡ get (codes "Sid") (view s)
  pub effect_is : data_of effect ≡ get (codes "Effect") (view s)
  pub action_is : data_of action ≡ get (codes "Action") (view s)
  pub not_action_is : data_of not_action ≡ get (codes "NotAction") (view s)
  pub resource_is : data_of resource ≡ get (codes "Resource") (view s)
  pub not_resource_is : data_of not_resource ≡ get (codes "NotResource") (view s)
  pub principal_is : data_of principal ≡ get (codes "Principal") (view s)
  pub not_principal_is : data_of not_principal ≡ get (codes "NotPrincipal") (view s)
  pub condition_is : data_of condition ≡ get (codes "Condition") (view s)
