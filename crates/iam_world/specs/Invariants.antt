-- What a `WorldParts` keeps of its value, so that its calls need not test it again. LOGIC 12.1 and 15.
use Rattle.std.specs.Prelude.{◌≡◌, ℕ, ◌<◌, ◌≤◌, ◌^◌, [], ◌++◌, length, map}
use Rattle.std.specs.List.{AllByRecursion, flat_map}
use Rattle.iam_context.specs.Context.{keys_of}
use Rattle.iam_context.specs.ContextFault.{IsClean}
use Rattle.iam_shape.specs.Texts.{AreFirstPlaces, Places}
use Rattle.iam_shape.specs.Few.{HasFewLevels}
use Rattle.iam_world.specs.World.{PrincipalValue, WorldValue, world_cells, world_statements}

-- the policies of the principal have numbers of 32 bits
pub record HasFewPolicies (principal : PrincipalValue) : Type 0 where
  pub identity : length principal.identity < 2 ^ 32
  pub session : length principal.session < 2 ^ 32

-- the contexts of the world, of a principal and of a resource can be joined
pub record CanJoin (world : WorldValue) : Type 0 where
  pub own : IsClean [] world.context
  pub principals : AllByRecursion (λ p. IsClean (keys_of world.context) p.context) world.principals
  pub resources :
      AllByRecursion (λ r. IsClean (keys_of world.context ++ flat_map (λ p. keys_of p.context) world.principals) r.context)
      world.resources

-- the world is within the limits, has so many cells and statements, and its accounts have these numbers
pub record IsSized (world : WorldValue) (cells statements : ℕ) (numbers : Places) : Type 0 where
  pub cells_are : cells ≡ world_cells world
  pub statements_are : statements ≡ world_statements world
  pub few_cells : cells ≤ 16777216
  pub few_statements : statements ≤ 4096
  pub policies : AllByRecursion HasFewPolicies world.principals
  pub orgs : AllByRecursion (λ account. HasFewLevels account.org) world.accounts
  pub controls : AllByRecursion (λ resource. HasFewLevels resource.control) world.resources
  pub moment : world.moment ≤ 253402300799
  pub contexts : CanJoin world
  pub numbered : AreFirstPlaces numbers (map (λ account. account.id) world.accounts)
