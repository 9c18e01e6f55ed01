-- What is known of the requests of a principal for a resource. LOGIC 1.1.
use Rattle.std.specs.Prelude.{ℕ}
use Rattle.iam_layers.specs.Cell.{IsSharedAt}
use Rattle.iam_world.specs.World.{WorldValue}
use Rattle.iam_living.specs.Asker.{AreBitsAt}
use Rattle.iam_living.specs.declared.asker.Asker.{Asker}
use Rattle.iam_classes.specs.declared.source.Told.{Told}
use Rattle.iam_classes.specs.declared.source.Told.TheVariants.{Words, Shared}

-- so is told of principal p's requests for resource r: the bits of the statements, or what the requests share
abbrev pub IsTold : WorldValue → ℕ → ℕ → Asker → Told → Type 0
IsTold world p r asker (Words bits) = AreBitsAt world p r asker bits
IsTold world p r asker (Shared shared) = IsSharedAt world p r shared
