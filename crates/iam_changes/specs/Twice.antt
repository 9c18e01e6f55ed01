-- A text that stands twice among the principals, the actions or the resources of a world: requests of it can't be told apart.
-- LOGIC 13.7.
use Rattle.std.specs.Prelude.{◌≡◌, ℕ, ◌<◌, List, ◌++◌, Some, codes, decimal, map}
use Rattle.std.specs.List.{slice_get}
use Rattle.iam_layers.specs.Cell.{principal_text}
use Rattle.iam_world.specs.World.{WorldValue}
use Rattle.iam_changes.specs.declared.twice.Axis.{Axis}
use Rattle.iam_changes.specs.declared.twice.Axis.TheVariants.{Principals, Actions, Resources}
use Rattle.iam_changes.specs.declared.twice.Twice.{Twice}

-- the texts of all that a request may be made of
abbrev pub axis_texts : Axis → WorldValue → List (List ℕ)
axis_texts Principals world = map principal_text world.principals
axis_texts Actions world = world.actions
axis_texts Resources world = map (λ resource. resource.arn) world.resources

-- the text at a place stands at an earlier one too
abbrev pub StandsBefore : List (List ℕ) → ℕ → Type 0
StandsBefore texts n = (m : ℕ) × (text : List ℕ) × (m < n) × (slice_get texts m ≡ Some text) × (slice_get texts n ≡ Some text)

-- each stands once
abbrev pub StandOnce : List (List ℕ) → Type 0
StandOnce texts = (n : ℕ) → ¬ StandsBefore texts n

-- so it is of all texts of a world: its requests can be told apart
abbrev pub IsApart : WorldValue → Type 0
IsApart world = (axis : Axis) → StandOnce (axis_texts axis world)

-- principals come before actions, and these before resources
abbrev pub axis_number : Axis → ℕ
axis_number Principals = 0
axis_number Actions = 1
axis_number Resources = 2

-- the first place at which a text stands again
pub record IsFirstTwice (world : WorldValue) (twice : Twice) : Type 0 where
  pub stands : StandsBefore (axis_texts twice.axis world) twice.number
  pub first : (n : ℕ) → n < twice.number → ¬ StandsBefore (axis_texts twice.axis world) n
  pub others : (axis : Axis) → axis_number axis < axis_number twice.axis → StandOnce (axis_texts axis world)

-- as it is told: `principals/3`
abbrev pub axis_word : Axis → List ℕ
axis_word Principals = codes "principals"
axis_word Actions = codes "actions"
axis_word Resources = codes "resources"

abbrev pub twice_text : Twice → List ℕ
twice_text twice = axis_word twice.axis ++ (codes "/" ++ decimal twice.number)
