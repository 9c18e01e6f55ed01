-- Resources of a world that are alike to rows: which of them have one number. LOGIC 2.4.
use Rattle.std.specs.Prelude.{◌≡◌, ◌↔◌, ℕ, List, Option, Some}
use Rattle.std.specs.List.{slice_get}
use Rattle.iam_context.specs.Context.{ContextValue}
use Rattle.iam_element.specs.Reading.{ResourceElement}
use Rattle.iam_match.specs.Statement.{ResourceMatches}
use Rattle.iam_layers.specs.Code.Statements.{AreSameButPolicy}
use Rattle.iam_world.specs.World.{ResourceValue, WorldValue}
use Rattle.iam_columns.specs.Slots.{Keeps}
use Rattle.iam_columns.specs.declared.rows.Row.{Row}

-- the resource element matches both resources or neither, in whatever context
abbrev pub MatchesBoth : WorldValue → Option ResourceElement → ℕ → ℕ → Type 0
MatchesBoth world element r other =
    (one two : ResourceValue) (context : ContextValue) → slice_get world.resources r ≡ Some one
    → slice_get world.resources other ≡ Some two → ResourceMatches element one.arn context ↔ ResourceMatches element two.arn context

-- the element of each row does
abbrev pub AllMatchBoth : WorldValue → List Row → ℕ → ℕ → Type 0
AllMatchBoth world rows r other =
    (n : ℕ) (row : Row) → slice_get rows n ≡ Some row → MatchesBoth world (Some row.element.now) r other

-- the two resources differ in nothing but their ARN and their policy, and no row tells them apart
pub record HaveOneColumn (world : WorldValue) (rows : List Row) (r other : ℕ) : Type 0 where
  pub differ : AreSameButPolicy world r other
  pub both : AllMatchBoth world rows r other

-- such are resources of one number
abbrev pub AreColumns : WorldValue → List Row → List (Option ℕ) → Type 0
AreColumns world rows numbers = (r other n : ℕ) → Keeps numbers r n → Keeps numbers other n → HaveOneColumn world rows r other

-- the first resource of the number and this one are such
abbrev pub HasFirst : WorldValue → List Row → List ℕ → ℕ → ℕ → Type 0
HasFirst world rows firsts n r = (first : ℕ) × (slice_get firsts n ≡ Some first) × HaveOneColumn world rows first r
