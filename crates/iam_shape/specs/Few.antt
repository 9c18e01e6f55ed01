-- How many lists and policies a document may hold: their numbers have 32 bits. LOGIC 15.
use Rattle.std.specs.Prelude.{◌<◌, ◌^◌, List, length}
use Rattle.std.specs.List.{AllByRecursion}
use Rattle.iam_shape.specs.View.{PrincipalViewValue, WorldViewValue}

-- the policies of the principal
pub record HasFewDocuments (principal : PrincipalViewValue) : Type 0 where
  pub identity : length principal.identity < 2 ^ 32
  pub session : length principal.session_policies < 2 ^ 32

-- the levels of policies, and the policies of each
pub record HasFewLevels {A : Type 0} (levels : List (List A)) : Type 0 where
  pub levels_few : length levels < 2 ^ 32
  pub policies_few : AllByRecursion (λ level. length level < 2 ^ 32) levels

pub record HasFewLists (world : WorldViewValue) : Type 0 where
  pub principals : AllByRecursion HasFewDocuments world.principals
  pub accounts : AllByRecursion (λ account. HasFewLevels account.org) world.accounts
  pub resources : AllByRecursion (λ resource. HasFewLevels resource.control) world.resources
