-- How a world document is read: the world of bytes that have no fault. LOGIC 12.1.
use Rattle.std.specs.Prelude.{◌≡◌, ℕ, ◌≤◌, List, length, Option}
use Rattle.std.specs.List.{AllZip}
use Rattle.std.specs.Option.{option_to_list}
use Rattle.serde_json.specs.Data.{Data}
use Rattle.iam_policy.specs.declared.fault.Kind.{Kind}
use Rattle.iam_policy.specs.declared.fault.Kind.TheVariants as kind
use Rattle.iam_policy.specs.Reading.{PolicyValue, Reads}
use Rattle.iam_shape.specs.View.{AccountViewValue, PrincipalViewValue, ResourceViewValue, WorldViewValue, IsView}
use Rattle.iam_world_context.specs.Part.{part_of}
use Rattle.iam_world.specs.World.{WorldValue, AccountValue, PrincipalValue, ResourceValue}
use Rattle.iam_world.specs.WorldFault.{IsJson, IsRequesterAt, WorldHasFault}
use Rattle.iam_world.specs.declared.fault.WorldFault.{WorldFault}

-- a policy that may be absent
abbrev pub ReadsOptional : Kind → Option Data → Option PolicyValue → Type 0
ReadsOptional kind d policy = AllZip (Reads kind) (option_to_list d) (option_to_list policy)

pub record ReadsAccount (view : AccountViewValue) (account : AccountValue) : Type 0 where
  pub id : account.id ≡ view.id
  pub management : account.management ≡ view.management
  pub org : AllZip (AllZip (Reads kind.Org)) view.org account.org

pub record ReadsPrincipal (view : PrincipalViewValue) (principal : PrincipalValue) : Type 0 where
  pub requester : IsRequesterAt view principal.requester
  pub identity : AllZip (Reads kind.Identity) view.identity principal.identity
  pub boundary : ReadsOptional kind.Identity view.boundary principal.boundary
  pub session : AllZip (Reads kind.Identity) view.session_policies principal.session
  pub context : principal.context ≡ part_of view.context

pub record ReadsResource (view : ResourceViewValue) (resource : ResourceValue) : Type 0 where
  pub arn : resource.arn ≡ view.arn
  pub account : resource.account ≡ view.account
  pub policy : ReadsOptional kind.Resource view.policy resource.policy
  pub sealed : resource.sealed ≡ view.sealed
  pub context : resource.context ≡ part_of view.context
  pub control : AllZip (AllZip (Reads kind.Control)) view.control resource.control

pub record ReadsWorld (view : WorldViewValue) (world : WorldValue) : Type 0 where
  pub moment : world.moment ≡ view.moment
  pub accounts : AllZip ReadsAccount view.accounts world.accounts
  pub principals : AllZip ReadsPrincipal view.principals world.principals
  pub actions : world.actions ≡ view.actions
  pub resources : AllZip ReadsResource view.resources world.resources
  pub context : world.context ≡ part_of view.context

-- the bytes are not too many, have no fault, and are read as this world
pub record IsWorld (bytes : List ℕ) (world : WorldValue) : Type 0 where
  pub acceptable : (length bytes ≤ 8388608) × ((fault : WorldFault) → ¬ WorldHasFault bytes fault)
  pub value : Data
  pub json : IsJson bytes value
  pub view : WorldViewValue
  pub says : IsView value view
  pub reads : ReadsWorld view world
