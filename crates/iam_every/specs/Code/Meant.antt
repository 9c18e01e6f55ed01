-- What is said of resources, and the policies that are looked at for it, where one action of each kind is looked for. LOGIC 11.2.
use Rattle.std.specs.Prelude.{◌≡◌, ◌⊎◌, ℕ, List, Any, Contains}
use Rattle.iam_decision.specs.Applicable.{ApplicableValue}
use Rattle.iam_world.specs.World.{WorldValue}
use Rattle.iam_layers.specs.Unnamed.{AreUnnamedPolicies}
use Rattle.iam_layers.specs.declared.unnamed.Unnamed.{Unnamed}
use Rattle.iam_layers.specs.declared.unnamed.Unnamed.TheVariants.{Like}
use Rattle.iam_every.specs.Alike.{AreAlikeActions}
use Rattle.iam_every.specs.Every.{EveryValue, IsMatched}

-- a line says this, or it is said of a resource of the world that some line matches
abbrev pub IsSaid : EveryValue → Unnamed → Type 0
IsSaid every unnamed =
    Any (λ line. unnamed ≡ line.unnamed) every.lines ⊎ ((r : ℕ) × IsMatched every.world every.lines r × (unnamed ≡ Like r))

-- actions that the first policies do not tell apart, the second do not either
abbrev pub Covers : ApplicableValue → ApplicableValue → Type 0
Covers a b = (one other : List ℕ) → AreAlikeActions a one other → AreAlikeActions b one other

-- some of these cover those that apply where principal p asks for such a resource
abbrev pub IsCovered : WorldValue → ℕ → List ApplicableValue → Unnamed → Type 0
IsCovered world p applicables unnamed =
    (a : ApplicableValue) × (b : ApplicableValue) × Contains applicables a × AreUnnamedPolicies world p unnamed b × Covers a b

-- each applies where principal p asks for a resource of which some of this is said, and all that do are covered
pub record CoverAll (world : WorldValue) (p : ℕ) (said : List Unnamed) (applicables : List ApplicableValue) : Type 0 where
  pub own : (a : ApplicableValue) → Contains applicables a
      → (unnamed : Unnamed) × Contains said unnamed × AreUnnamedPolicies world p unnamed a
  pub all : (unnamed : Unnamed) → Contains said unnamed → IsCovered world p applicables unnamed
