-- Whether the world has a request.
use Rattle.std.specs.Prelude.{ℕ, ◌<◌, length}
use Rattle.iam_world.specs.World.{WorldValue}

-- the world has this principal, action and resource
pub record HasTriple (world : WorldValue) (p a r : ℕ) : Type 0 where
  pub principal : p < length world.principals
  pub action : a < length world.actions
  pub resource : r < length world.resources
