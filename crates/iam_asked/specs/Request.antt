-- Requests that a file asks of a world, by the numbers of principal, action and resource. LOGIC 13.8.
use Rattle.std.specs.Prelude.{◌≡◌, ◌≢◌, ◌<◌, ℕ, List, [], ◌∷◌, ◌++◌, Some, length}
use Rattle.std.specs.List.{slice_get}
use Rattle.iam_context.specs.Context.{ContextValue}
use Rattle.iam_layers.specs.Own.{IsCleanAt}
use Rattle.iam_world.specs.World.{WorldValue}
use Rattle.iam_asked.specs.declared.asked.Asked.{Asked}
use Rattle.iam_asked.specs.Said.{SaidValue, Says}
use Rattle.iam_asked.specs.Texts.{IsActionAt, IsOnlyAt, principal_texts, resource_texts}

-- a request: the numbers, and the keys that it gives itself
pub record AskedValue : Type 0 where
  pub principal : ℕ
  pub action : ℕ
  pub resource : ℕ
  pub own : ContextValue

-- requests that are asked of a world, in order
pub record RequestsValue : Type 0 where
  pub world : WorldValue
  pub asked : List AskedValue

-- the request with these numbers that gives these keys
abbrev pub asked_with : Asked → ContextValue → AskedValue
asked_with asked own = record {
  principal = asked.principal;
  action = asked.action;
  resource = asked.resource;
  own = own;
}

-- one more request
abbrev pub with_asked : RequestsValue → AskedValue → RequestsValue
with_asked requests asked = record requests { asked = requests.asked ++ asked ∷ [] }

-- request n is there, and P holds of it
abbrev pub IsAsked : RequestsValue → ℕ → (AskedValue → Type 0) → Type 0
IsAsked requests n P = (asked : AskedValue) × (slice_get requests.asked n ≡ Some asked) × P asked

-- the world has what the request names, and the keys that the request gives, where it gives any, are clean beside those of the world,
-- the principal and the resource
pub record IsWithin (world : WorldValue) (asked : AskedValue) : Type 0 where
  pub principal : asked.principal < length world.principals
  pub action : asked.action < length world.actions
  pub resource : asked.resource < length world.resources
  pub clean : asked.own ≢ [] → IsCleanAt world asked.principal asked.resource asked.own

-- what a line says is this request of the world: principal and resource have a text that no other has
pub record IsMeant (world : WorldValue) (said : SaidValue) (asked : AskedValue) : Type 0 where
  pub principal : IsOnlyAt (principal_texts world) said.principal asked.principal
  pub action : IsActionAt world.actions said.action asked.action
  pub resource : IsOnlyAt (resource_texts world) said.resource asked.resource
  pub own : asked.own ≡ said.own
  pub clean : asked.own ≢ [] → IsCleanAt world asked.principal asked.resource asked.own

-- the line is this request
abbrev pub IsRequest : WorldValue → List ℕ → AskedValue → Type 0
IsRequest world line asked = (said : SaidValue) × Says line said × IsMeant world said asked
