-- The keys that a world, its principals and its resources give to requests. LOGIC 5.
use Rattle.std.specs.Prelude.{◌≡◌, ℕ, List, Some, length}
use Rattle.std.specs.List.{slice_get}
use Rattle.iam_context.specs.Context.{ContextValue}
use Rattle.iam_layers.specs.Cell.{IsPrincipal, IsResource}
use Rattle.iam_world.specs.World.{WorldValue}

-- each of a list has the property, by its number
abbrev pub AreAt : {X : Type 0} → (ℕ → X → Type 0) → List X → Type 0
AreAt {X} P xs = (i : ℕ) (x : X) → slice_get xs i ≡ Some x → P i x

-- principal p gives these keys to its requests, resource r to those for it
abbrev pub GivesPrincipal : WorldValue → ℕ → ContextValue → Type 0
GivesPrincipal world p keys = IsPrincipal world p (λ principal. keys ≡ principal.context)

abbrev pub GivesResource : WorldValue → ℕ → ContextValue → Type 0
GivesResource world r keys = IsResource world r (λ resource. keys ≡ resource.context)

-- these are the keys that all requests have, and those of each principal and each resource
pub record AreParts (world : WorldValue) (common : ContextValue) (principals resources : List ContextValue) : Type 0 where
  pub common_are : common ≡ world.context
  pub principals_are : AreAt (GivesPrincipal world) principals
  pub principals_count : length principals ≡ length world.principals
  pub resources_are : AreAt (GivesResource world) resources
  pub resources_count : length resources ≡ length world.resources
