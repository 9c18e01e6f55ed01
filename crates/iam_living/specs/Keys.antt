-- The derived keys that an engine made last. LOGIC 1.1.
use Rattle.std.specs.Prelude.{◌≡◌, ◌<◌, ℕ, List, Some, length}
use Rattle.std.specs.List.{slice_get}
use Rattle.iam_layers.specs.Cell.{IsDerivedAt, IsSharedAt}
use Rattle.iam_world.specs.World.{WorldValue}
use Rattle.iam_living.specs.Asker.{AreBitsAt, AreTold}
use Rattle.iam_living.specs.declared.asker.Asker.{Asker}
use Rattle.iam_living.specs.declared.keys.Keys.{Keys}
use Rattle.iam_living.specs.declared.keys.Ready.{Ready}
use Rattle.iam_living.specs.declared.keys.Ready.TheVariants.{Kept, Made}
use Rattle.iam_living.specs.declared.keys.Lives.{Lives}
use Rattle.iam_living.specs.declared.keys.Lives.TheVariants.{Words, Shared}

-- these are the derived keys of the requests of their principal for their resource
pub record AreKeys (world : WorldValue) (keys : Keys) : Type 0 where
  pub resource : keys.resource < length world.resources
  pub derived : IsDerivedAt world keys.principal keys.resource keys.derived.items

-- and what is told by them to a principal that asks is right
pub record AreToldKeys (asker : Asker) (keys : Keys) : Type 0 where
  pub are : AreKeys asker.listing.world keys
  pub told : AreTold asker keys.principal keys.derived.items keys.told

-- the keys of this number are the derived keys of principal p's requests for resource r
abbrev pub HasKeys : WorldValue → ℕ → ℕ → List Keys → ℕ → Type 0
HasKeys world p r kept n = (keys : Keys) × (slice_get kept n ≡ Some keys) × (keys.principal ≡ p) × IsDerivedAt world p r keys.derived.items

-- these are the derived keys of principal p's requests for resource r, beside those that are kept
abbrev pub IsReady : WorldValue → ℕ → ℕ → List Keys → Ready → Type 0
IsReady world p r kept (Kept n) = HasKeys world p r kept n
IsReady world p r kept (Made derived) = IsDerivedAt world p r derived.items

-- so is told which statements live in principal p's requests for resource r: by bits, or by what the requests share
abbrev pub TellsLives : WorldValue → ℕ → ℕ → Asker → Lives → Type 0
TellsLives world p r asker (Words bits) = AreBitsAt world p r asker bits
TellsLives world p r asker (Shared shared) = IsSharedAt world p r shared
