-- How the code seeks the first fault of what a document says, beside `WorldFault`.
use Rattle.std.specs.Prelude.{◌≡◌, ℕ, ◌≤◌, List, Option, MatchOption}
use Rattle.std.specs.List.{AllByRecursion}
use Rattle.iam_shape.specs.View.{WorldViewValue}
use Rattle.iam_shape.specs.First.{IsFirstAt}
use Rattle.iam_world.specs.WorldFault.{ViewHasFault, world_number_of}
use Rattle.iam_shape.specs.declared.path.Path.{Path}
use Rattle.iam_shape.specs.declared.fault.ShapeFault.{ShapeFault}
use Rattle.iam_shape.specs.declared.fault.ShapeFault.TheVariants as shape
use Rattle.iam_world_context.specs.declared.fault.PartFault.{PartFault}
use Rattle.iam_world_context.specs.declared.fault.PartFault.TheVariants as part
use Rattle.iam_world.specs.declared.fault.WorldFault.{WorldFault}
use Rattle.iam_world.specs.declared.fault.WorldFault.TheVariants.{BadShape, Context, OutOfMemory}

-- no fault has a lesser number
abbrev pub IsClearBelow : ℕ → WorldViewValue → Type 0
IsClearBelow n world = (fault : WorldFault) → ViewHasFault world fault → n ≤ world_number_of fault

-- the fault with the least number
pub record IsFirstViewFault (world : WorldViewValue) (fault : WorldFault) : Type 0 where
  pub holds : ViewHasFault world fault
  pub least : IsClearBelow (world_number_of fault) world

-- a fault of this form, with a path of which P holds
abbrev pub IsFaultAt : (Path → WorldFault) → (Path → Type 0) → WorldFault → Type 0
IsFaultAt make P fault = (path : Path) × (fault ≡ make path) × P path

-- the path of the first element of which P holds, or none where P holds of none
abbrev pub FindsFirst : {X : Type 0} → (X → Type 0) → List (Path × X) → Option Path → Type 0
FindsFirst P xs result = MatchOption result (AllByRecursion (λ x. ¬ P x.1) xs) (IsFirstAt P xs)

-- the fault of a world whose shape has this fault
abbrev pub shape_fault : ShapeFault → WorldFault
shape_fault (shape.At path) = BadShape path
shape_fault shape.OutOfMemory = OutOfMemory

-- the fault of a world whose contexts have this fault
abbrev pub part_fault : PartFault → WorldFault
part_fault (part.At path found) = Context path found
part_fault part.OutOfMemory = OutOfMemory
