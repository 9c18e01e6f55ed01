-- An engine, as its callers see it. LOGIC 1.1.
use Rattle.std.specs.Prelude.{◌≡◌, ℕ, Bool, List, Some}
use Rattle.std.specs.List.{slice_get}
use Rattle.iam_decision.specs.Ruling.{RulingValue}
use Rattle.iam_layers.specs.Cell.{IsSharedAt}
use Rattle.iam_world.specs.World.{WorldValue}
pub use Rattle.iam_classes.specs.Memo.{HasMore}
use Rattle.iam_classes.specs.Memo.{HasClass, HasNumber, HasVerdict}
use Rattle.iam_classes.specs.declared.memo.Class.{Class}

-- where an engine has it from what requests share: the world, and whether it knows a survey of it
pub record SourceValue : Type 0 where
  pub world : WorldValue
  pub surveyed : Bool

-- the world whose cells it decides, the classes of requests and the verdicts, with what they follow from, that it keeps, by number, and
-- whether it knows a survey of the world
pub record EngineValue : Type 0 where
  pub world : WorldValue
  pub classes : List Class
  pub rulings : List RulingValue
  pub surveyed : Bool

-- it is of the same world, and knows a survey of it where it did before
abbrev pub IsSameEngine : EngineValue → EngineValue → Type 0
IsSameEngine old new = (new.world ≡ old.world) × (new.surveyed ≡ old.surveyed)

-- requests of principal p for resource r are of this class
abbrev pub IsClassAt : EngineValue → ℕ → ℕ → ℕ → Type 0
IsClassAt engine p r n = HasClass engine.world engine.classes p r n

-- the verdict of this number is the one on the requests of a class for action a
abbrev pub IsNumberOf : EngineValue → ℕ → ℕ → ℕ → Type 0
IsNumberOf engine n a number = HasNumber engine.world engine.classes engine.rulings n a number

-- there is such a class, and P holds of each principal and resource whose requests are of it
abbrev pub OfClass : EngineValue → ℕ → (ℕ → ℕ → Type 0) → Type 0
OfClass engine n P =
    (class : Class) × (slice_get engine.classes n ≡ Some class) × ((p r : ℕ) → IsSharedAt engine.world p r class.shared → P p r)

-- the verdict of this number is the one on principal p's request for action a on resource r
abbrev pub IsNumberAt : EngineValue → ℕ → ℕ → ℕ → ℕ → Type 0
IsNumberAt engine p a r number = HasVerdict engine.world engine.rulings p a r number
