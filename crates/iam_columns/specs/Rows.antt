-- Resource elements of which it is kept which resources they match, or, where they have variables, which they may match. LOGIC 2.4.
use Rattle.std.specs.Prelude.{◌≡◌, ◌↔◌, ℕ, Bool, IsTrue, List, MatchBool, Option, Some}
use Rattle.std.specs.List.{slice_get}
use Rattle.iam_context.specs.Context.{ContextValue}
use Rattle.iam_decision.specs.declared.scan.Standing.{Standing}
use Rattle.iam_element.specs.Reading.{ResourceElement}
use Rattle.iam_match.specs.Statement.{ResourceMatches}
use Rattle.iam_world.specs.World.{ResourceValue, WorldValue}
use Rattle.iam_columns.specs.Slots.{Keeps}
use Rattle.iam_columns.specs.declared.rows.Row.{Row}

-- this says whether the element matches resource r of the world, in whatever context
abbrev pub TellsMatch : WorldValue → Option ResourceElement → ℕ → Bool → Type 0
TellsMatch world element r matched =
    (resource : ResourceValue) (context : ContextValue) → slice_get world.resources r ≡ Some resource
    → IsTrue matched ↔ ResourceMatches element resource.arn context

-- this says so where the element matches in some context
abbrev pub TellsMayMatch : WorldValue → Option ResourceElement → ℕ → Bool → Type 0
TellsMayMatch world element r matched =
    (resource : ResourceValue) (context : ContextValue) → slice_get world.resources r ≡ Some resource
    → ResourceMatches element resource.arn context → IsTrue matched

-- each of these has the property, by its place
abbrev pub Tell : (ℕ → Bool → Type 0) → List Bool → Type 0
Tell P matches = (r : ℕ) (matched : Bool) → slice_get matches r ≡ Some matched → P r matched

-- of an element without variables the row says of each resource whether it matches, of another whether it may
abbrev pub IsRow : WorldValue → Row → Type 0
IsRow world row =
    let element = Some row.element.now in
    MatchBool row.exact (Tell (TellsMatch world element) row.matches.items) (Tell (TellsMayMatch world element) row.matches.items)

abbrev pub AreRows : WorldValue → List Row → Type 0
AreRows world rows = (n : ℕ) (row : Row) → slice_get rows n ≡ Some row → IsRow world row

-- this is the row of the element
abbrev pub HasRow : List Row → ℕ → Option ResourceElement → Type 0
HasRow rows n element = (row : Row) × (slice_get rows n ≡ Some row) × (Some row.element.now ≡ element)

-- the rows of the resource elements of statements, of those that have one
abbrev pub AreStatementRows : List Row → List Standing → List (Option ℕ) → Type 0
AreStatementRows rows statements numbers =
    (i n : ℕ) (standing : Standing) → Keeps numbers i n → slice_get statements i ≡ Some standing
    → HasRow rows n standing.statement.now.resource
