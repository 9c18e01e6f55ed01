-- A world: accounts with organisation policies, principals and resources with their policies, actions and a moment.
-- A text is the list of its bytes. LOGIC 12.1.
use Rattle.std.specs.Prelude.{ℕ, ◌*◌, List, ◌++◌, Bool, Option, length}
use Rattle.std.specs.List.{find, flat_map, sum_by}
use Rattle.std.specs.Option.{option_to_list}
use Rattle.std.specs.Str.{bytes_eq}
use Rattle.iam_policy.specs.Reading.{PolicyValue}
use Rattle.iam_context.specs.Context.{ContextValue}
use Rattle.iam_context.specs.Requester.{RequesterValue}

-- an account: its id, whether it manages its organisation, and the organisation policies by level from the root
pub record AccountValue : Type 0 where
  pub id : List ℕ
  pub management : Bool
  pub org : List (List PolicyValue)

-- a principal: the requester, the policies that are attached to it, and the context that it gives
pub record PrincipalValue : Type 0 where
  pub requester : RequesterValue
  pub identity : List PolicyValue
  pub boundary : Option PolicyValue
  pub session : List PolicyValue
  pub context : ContextValue

-- a resource: its ARN or `*`, its account, the policy that is attached to it, whether that one must
-- grant, the context that it gives, and the resource control policies by level from the root
pub record ResourceValue : Type 0 where
  pub arn : List ℕ
  pub account : List ℕ
  pub policy : Option PolicyValue
  pub sealed : Bool
  pub context : ContextValue
  pub control : List (List PolicyValue)

-- the moment is in seconds from 1970-01-01T00:00:00Z; the context is that of every request
pub record WorldValue : Type 0 where
  pub moment : ℕ
  pub accounts : List AccountValue
  pub principals : List PrincipalValue
  pub actions : List (List ℕ)
  pub resources : List ResourceValue
  pub context : ContextValue

-- how many cells the matrix of a world has
abbrev pub world_cells : WorldValue → ℕ
world_cells world = length world.principals * length world.actions * length world.resources

-- all policies of a world, layer by layer
abbrev pub policies_of : WorldValue → List PolicyValue
policies_of world =
    flat_map (λ account. flat_map (λ level. level) account.org) world.accounts
    ++ (flat_map (λ resource. flat_map (λ level. level) resource.control) world.resources
    ++ (flat_map (λ resource. option_to_list resource.policy) world.resources
    ++ (flat_map (λ principal. principal.identity) world.principals
    ++ (flat_map (λ principal. option_to_list principal.boundary) world.principals
    ++ flat_map (λ principal. principal.session) world.principals))))

-- how many statements the policies of a world have
abbrev pub world_statements : WorldValue → ℕ
world_statements world = sum_by (λ policy. length policy.statements) (policies_of world)

-- the account with this id
abbrev pub account_with : List ℕ → WorldValue → Option AccountValue
account_with id world = find (λ account. bytes_eq account.id id) world.accounts
