-- Which groups of patterns they are by which the statements that concern a request read the text of a resource, as one list: AWS IAM User
-- Guide, "IAM JSON policy elements: Resource" and "NotResource". LOGIC 11.2.
use Rattle.std.specs.Prelude.{◌≡◌, ◌⊎◌, ◌∷◌, ◌++◌, [], ℕ, Bool, true, false, Contains, List, None, Option, Some, map}
use Rattle.std.specs.List.{AllZip, filter_map, flat_map}
use Rattle.iam_glob.specs.declared.sign.Sign.{Sign}
use Rattle.iam_context.specs.Context.{ContextValue}
use Rattle.iam_context.specs.Resolve.{resolved}
use Rattle.iam_element.specs.Reading.{ResourceElement}
use Rattle.iam_match.specs.Statement.{AccessValue}
use Rattle.iam_decision.specs.Applicable.{ApplicableValue}
use Rattle.iam_decision.specs.Matched.{Placed, Selects, placed}
use Rattle.iam_world.specs.World.{WorldValue}
use Rattle.iam_layers.specs.Unnamed.{IsUnnamedAccess}
use Rattle.iam_layers.specs.declared.unnamed.Unnamed.{Unnamed}
use Rattle.iam_every.specs.Alike.{Concerns}
use Rattle.iam_every.specs.Groups.{AreGroups, side_of}
use Rattle.iam_every.specs.declared.groups.Side.{Side}

-- the members that were not seen before, each distinct one once, at its first place
abbrev pub AreFirsts : {X : Type 0} → List X → List X → List X → Type 0
AreFirsts seen [] firsts = firsts ≡ []
AreFirsts seen (x ∷ xs) firsts =
    (Contains seen x × AreFirsts seen xs firsts)
    ⊎ (¬ Contains seen x × ((rest : List _) × (firsts ≡ x ∷ rest) × AreFirsts (seen ++ (x ∷ [])) xs rest))

-- the statement has an element `Resource`, or where `negated` says so `NotResource`
abbrev pub HasElement : Bool → Placed → Type 0
HasElement negated s = (element : ResourceElement) × (s.statement.resource ≡ Some element) × (element.negated ≡ negated)

-- the patterns that the texts of the element become in the context, in order; a text of which a variable has no value becomes none
abbrev pub patterns_in : ContextValue → Option ResourceElement → List (List Sign)
patterns_in context None = []
patterns_in context (Some element) = filter_map (resolved context) element.texts

-- the sides on which one of the statements has an element `Resource`, in the order of the first that has one
abbrev pub AreSides : AccessValue → List Placed → List Side → Type 0
AreSides access statements sides =
    (stated : List Placed) × Selects (HasElement false) statements stated × AreFirsts [] (map (side_of access.requester) stated) sides

-- the group of a side: the patterns of the elements `Resource` of all statements on it, one statement after the other
abbrev pub IsSideGroup : AccessValue → List Placed → Side → List (List Sign) → Type 0
IsSideGroup access statements side group =
    (own : List Placed) × Selects (λ s. HasElement false s × (side_of access.requester s ≡ side)) statements own
    × (group ≡ flat_map (λ s. patterns_in access.context s.statement.resource) own)

-- a group for each side
abbrev pub AreSideGroups : AccessValue → List Placed → List (List (List Sign)) → Type 0
AreSideGroups access statements groups =
    (sides : List Side) × AreSides access statements sides × AllZip (IsSideGroup access statements) sides groups

-- a group for each element `NotResource`, in the order of the statements
abbrev pub AreNegatedGroups : ContextValue → List Placed → List (List (List Sign)) → Type 0
AreNegatedGroups context statements groups =
    (own : List Placed) × Selects (HasElement true) statements own × (groups ≡ map (λ s. patterns_in context s.statement.resource) own)

-- those of the statements that concern requests for the action, in place order: first those of the sides, then those of `NotResource`
pub record AreOwnGroups (a : ApplicableValue) (access : AccessValue) (action : List ℕ) (groups : List (List (List Sign))) : Type 0 where
  pub chosen : List Placed
  pub concerned : Selects (Concerns access action) (placed a) chosen
  pub sides : List (List (List Sign))
  pub of_sides : AreSideGroups access chosen sides
  pub negated : List (List (List Sign))
  pub of_negated : AreNegatedGroups access.context chosen negated
  pub are : groups ≡ sides ++ negated

-- so it is on requests of principal p for the action, on resources that the world does not name and of which this is said
pub record AreOwnGroupsAt (world : WorldValue) (p : ℕ) (unnamed : Unnamed) (action : List ℕ) (groups : List (List (List Sign))) : Type 0 where
  pub text : List ℕ
  pub applicable : ApplicableValue
  pub access : AccessValue
  pub asks : IsUnnamedAccess world p unnamed action text applicable access
  pub are : AreOwnGroups applicable access action groups

-- they tell apart just what decisions do
abbrev pub OwnGroupsAreGroups : Type 0
OwnGroupsAreGroups =
    (a : ApplicableValue) (access : AccessValue) (action : List ℕ) (groups : List (List (List Sign)))
    → AreOwnGroups a access action groups → AreGroups a access action groups

-- they are one list
abbrev pub OneListOfGroups : Type 0
OneListOfGroups =
    (a : ApplicableValue) (access : AccessValue) (action : List ℕ) (one other : List (List (List Sign)))
    → AreOwnGroups a access action one → AreOwnGroups a access action other → one ≡ other

abbrev pub OneListOfGroupsAt : Type 0
OneListOfGroupsAt =
    (world : WorldValue) (p : ℕ) (unnamed : Unnamed) (action : List ℕ) (one other : List (List (List Sign)))
    → AreOwnGroupsAt world p unnamed action one → AreOwnGroupsAt world p unnamed action other → one ≡ other
